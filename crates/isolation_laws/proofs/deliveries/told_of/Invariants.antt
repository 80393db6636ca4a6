use Rattle.std.proofs.Common.{◌≡◌, take}
use Rattle.isolation_laws.specs.Solo.{extents_recorded}
use Rattle.isolation_laws.proofs.deliveries.told_of.Given as goal

abbrev pub invariant-loop-i : goal.invariant-loop-i
invariant-loop-i l = l.extents ≡ extents_recorded l.fn.host l.fn.kind (take l.i l.effects)
