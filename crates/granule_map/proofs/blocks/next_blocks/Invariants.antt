use Rattle.std.proofs.Common.{◌≡◌, ℕ, ◌+◌, ◌-◌, ◌*◌, ◌<◌, ◌≤◌, false}
use Rattle.granule_map.specs.Blocks.{is_block_free}
use Rattle.granule_map.proofs.blocks.next_blocks.Given as goal

-- no block is free that begins before the granule that is reached
abbrev pub invariant-loop-at : goal.invariant-loop-at
invariant-loop-at l = record {
  low : l.area.first + l.from * l.per_block ≤ l.at;
  high : l.at ≤ l.area.first + l.area.count;
  passed : (k : ℕ) → l.from ≤ k → l.area.first + k * l.per_block < l.at → is_block_free l.map.states l.area l.per_block k ≡ false;
}

abbrev pub decreases-loop-at : goal.decreases-loop-at
decreases-loop-at l = l.area.first + l.area.count - l.at
