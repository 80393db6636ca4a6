use Rattle.std.proofs.Common.{take}
use Rattle.host_driver.specs.Spelling.{AreSpelled}
use Rattle.host_driver.proofs.spelling.are_spelled.Given as goal

abbrev pub invariant-loop-entry : goal.invariant-loop-entry
invariant-loop-entry l = AreSpelled (take l.entry-index l.journal)
