use Rattle.std.proofs.Common.{◌≡◌, take, fold}
use Rattle.dcd_c.specs.Changes.{grown_by}
use Rattle.dcd_c.proofs.changes.grown.Given as goal

abbrev pub invariant-loop-i : goal.invariant-loop-i
invariant-loop-i l = l.bits ≡ fold grown_by 0 (take l.i l.effects)
