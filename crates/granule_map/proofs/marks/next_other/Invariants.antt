use Rattle.std.proofs.Common.{◌≡◌, ◌≤◌, ◌<◌, ◌-◌, ℕ, false, get_or}
use Rattle.memchr.specs.Find.{is_byte}
use Rattle.granule_map.specs.Stretches.{fails}
use Rattle.granule_map.proofs.marks.next_other.Given as goal

abbrev pub invariant-loop-next : goal.invariant-loop-next
invariant-loop-next l = record {
  from : l.from ≤ l.next;
  within : l.next ≤ l.end;
  alike : (k : ℕ) → l.from ≤ k → k < l.next → fails (λ j. is_byte l.mark (get_or l.marks j 0)) k ≡ false;
}

abbrev pub decreases-loop-next : goal.decreases-loop-next
decreases-loop-next l = l.end - l.next
