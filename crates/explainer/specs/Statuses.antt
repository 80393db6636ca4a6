-- The exit status of the program.
use Rattle.std.specs.Prelude.{ℕ}
use Rattle.explainer.specs.declared.status.Status.{Status}

abbrev pub exit_status : Status → ℕ
exit_status Status.Done = 0
exit_status Status.Usage = 2
exit_status Status.Refused = 3
exit_status Status.NoMemory = 4
exit_status Status.ReadFault = 5
exit_status Status.WriteFault = 6
