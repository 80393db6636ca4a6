use Rattle.std.proofs.Common.{◌≡◌, take}
use Rattle.sanitizer.specs.Turns.{granules_of_runs}
use Rattle.manager_commands.proofs.scrub.granules_of_runs.Given as goal

abbrev pub invariant-loop-i : goal.invariant-loop-i
invariant-loop-i l = l.granules ≡ granules_of_runs (take l.i l.runs)
