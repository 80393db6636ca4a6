use Rattle.std.proofs.Common.{take}
use Rattle.device_state.specs.Stages.{AreMoved}
use Rattle.device_state.proofs.counting.moved_hosts.Given as goal

abbrev pub invariant-loop-i : goal.invariant-loop-i
invariant-loop-i l = AreMoved (take l.i l.effects) l.moved
