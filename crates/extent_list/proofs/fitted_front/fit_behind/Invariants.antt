use Rattle.extent_list.specs.Fitting.{FrontFits}
use Rattle.extent_list.proofs.fitted_front.fit_behind.Given as goal

abbrev pub invariant-loop-i : goal.invariant-loop-i
invariant-loop-i l = FrontFits l.config l.host l.owners l.list l.i
