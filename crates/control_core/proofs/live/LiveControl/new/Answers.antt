use Rattle.std.proofs.Common.{[]}
use Rattle.control_core.proofs.Entering.{reached_past}
use Rattle.control_core.proofs.live.LiveControl.new.Goals as goal

pub invariant_of-result : goal.invariant_of-result
invariant_of-result c = reached_past c.args.config [] c.in_ok-state.state (record { sound = c.hosts-hosts.ensures.sound; legal = tt; kept = c.in_ok-state.ensures })
