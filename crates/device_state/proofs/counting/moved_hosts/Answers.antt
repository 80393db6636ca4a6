use Rattle.device_state.proofs.Moved.{none_moved}
use Rattle.device_state.proofs.counting.moved_hosts.Goals as goal

pub loop-i-init : goal.loop-i-init
loop-i-init c = none_moved
