use Rattle.std.proofs.Common.{◌≡◌, ◌≤◌, ◌<◌, ℕ, get_or}
use Rattle.control_core.proofs.changing.alike_up_to.Given as goal

abbrev pub invariant-loop-next : goal.invariant-loop-next
invariant-loop-next l = (g : ℕ) → l.at ≤ g → g < l.next → get_or l.holders g 0 ≡ l.bits
