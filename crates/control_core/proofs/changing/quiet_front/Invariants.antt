use Rattle.std.proofs.Common.{ℕ, List, [], take}
use Rattle.control_core.specs.PutChanges.{ArePut}
use Rattle.control_core.proofs.changing.quiet_front.Given as goal

abbrev pub invariant-loop-i : goal.invariant-loop-i
invariant-loop-i l = (n : ℕ) (holders : List ℕ) → ArePut n holders (take l.i l.effects) []
