use Rattle.extent_list.proofs.FitFront.{FallsTo}
use Rattle.extent_list.proofs.lookup.Owners.fit_falling.Given as goal

abbrev pub invariant-loop-i : goal.invariant-loop-i
invariant-loop-i l = FallsTo l.config l.fn.host l.fn.region l.place l.self l.list l.i
