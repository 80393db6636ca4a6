use Rattle.std.proofs.Common.{◌≡◌, ◌+◌, ◌-◌, ◌<◌, ◌≤◌, ℕ, drop, get_or, take}
use Rattle.std.specs.Prelude.{count_by}
use Rattle.memchr.specs.Find.{is_byte}
use Rattle.granule_map.proofs.PartsReplaced.{replaced}
use Rattle.granule_map.proofs.replacing.replace_many.Given as goal

abbrev pub invariant-loop-i-2 : goal.invariant-loop-i-2
invariant-loop-i-2 l = record {
  begun : l.begun ≤ l.i;
  within : l.i ≤ l.count;
  marks : l.marks ≡ replaced l.first l.i l.mark l.fn.marks;
  hosts : l.hosts ≡ replaced l.first l.i l.host l.fn.hosts;
  alike : (k : ℕ) → l.first + l.begun ≤ k → k < l.first + l.i → get_or l.fn.marks k 0 ≡ l.was;
}

abbrev pub decreases-loop-i-2 : goal.decreases-loop-i-2
decreases-loop-i-2 l = l.count - l.i

abbrev pub invariant-loop-i-3 : goal.invariant-loop-i-3
invariant-loop-i-3 l = record {
  begun : l.begun ≤ l.i;
  within : l.i ≤ l.count;
  marks : l.marks ≡ replaced l.first l.i l.mark l.fn.marks;
  hosts : l.hosts ≡ replaced l.first l.i l.host l.fn.hosts;
  alike : (k : ℕ) → l.first + l.begun ≤ k → k < l.first + l.i → get_or l.fn.marks k 0 ≡ l.was;
}

abbrev pub decreases-loop-i-3 : goal.decreases-loop-i-3
decreases-loop-i-3 l = l.count - l.i

abbrev pub invariant-loop-i : goal.invariant-loop-i
invariant-loop-i l = record {
  within : l.i ≤ l.count;
  marks : l.marks ≡ replaced l.first l.i l.mark l.fn.marks;
  hosts : l.hosts ≡ replaced l.first l.i l.host l.fn.hosts;
  free : l.free ≡ count_by (is_byte 0) (take l.i (drop l.first l.fn.marks));
  dirty : l.dirty ≡ count_by (is_byte 4) (take l.i (drop l.first l.fn.marks));
  free_few : l.free ≤ l.i;
  dirty_few : l.dirty ≤ l.i;
}

abbrev pub decreases-loop-i : goal.decreases-loop-i
decreases-loop-i l = l.count - l.i
