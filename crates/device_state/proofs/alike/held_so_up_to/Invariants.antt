use Rattle.std.proofs.Common.{◌≡◌, ◌≤◌, ◌<◌, ◌-◌, ℕ, get_or}
use Rattle.device_state.proofs.alike.held_so_up_to.Given as goal

abbrev pub invariant-loop-next : goal.invariant-loop-next
invariant-loop-next l = record {
  from : l.first ≤ l.next;
  within : l.next ≤ l.end;
  same : (g : ℕ) → l.first ≤ g → g < l.next → get_or l.bits g 0 ≡ l.held;
}

abbrev pub decreases-loop-next : goal.decreases-loop-next
decreases-loop-next l = l.end - l.next
