use Rattle.std.proofs.Common.{length}
use Rattle.host_driver.specs.Spelling.{AreSpelledIn}
use Rattle.host_driver.proofs.spelling.left_are_spelled.Given as goal

-- Where the records that are left are spelled, all are.
abbrev pub invariant-loop-effect : goal.invariant-loop-effect
invariant-loop-effect l = AreSpelledIn l.left → AreSpelledIn l.fn.effects

abbrev pub decreases-loop-effect : goal.decreases-loop-effect
decreases-loop-effect l = length l.left
