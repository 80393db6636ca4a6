use Rattle.std.proofs.Common.{◌-◌}
use Rattle.shared_device.proofs.command.entering.+enter_from.Given as goal

abbrev pub decreases-enter_from : goal.decreases-enter_from
decreases-enter_from g l = 16 - l.index
