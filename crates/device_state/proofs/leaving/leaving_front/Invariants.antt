use Rattle.std.{proofs.Common.take, specs.Prelude.All}
use Rattle.device_state.specs.Leaves.{IsLeaving}
use Rattle.device_state.proofs.leaving.leaving_front.Given as goal

abbrev pub invariant-loop-i : goal.invariant-loop-i
invariant-loop-i l = All (IsLeaving l.host) (take l.i l.effects)
