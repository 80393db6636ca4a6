use Rattle.std.proofs.Common.{◌≡◌, ◌≤◌, ◌<◌, ℕ, get_or}
use Rattle.device_state.proofs.alike.other_from.Given as goal

abbrev pub invariant-loop-next : goal.invariant-loop-next
invariant-loop-next l = (g : ℕ) → l.first ≤ g → g < l.next → get_or l.bits g 0 ≡ l.held
