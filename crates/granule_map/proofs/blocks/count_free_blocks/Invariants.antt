use Rattle.std.{proofs.Common.◌≡◌, proofs.Common.◌+◌, proofs.Common.◌-◌, proofs.Common.◌≤◌, proofs.Common.length, specs.List.filter, specs.List.range_with_len}
use Rattle.granule_map.specs.Blocks.{block_count, free_block_count, is_block_free}
use Rattle.granule_map.proofs.blocks.count_free_blocks.Given as goal

abbrev pub invariant-loop-blocks : goal.invariant-loop-blocks
invariant-loop-blocks l = record {
  within : l.at ≤ block_count l.area l.per_block;
  few : l.free ≤ l.at;
  rest : l.free + length (filter (is_block_free l.map.states l.area l.per_block) (range_with_len l.at (block_count l.area l.per_block - l.at)))
      ≡ free_block_count l.map.states l.area l.per_block;
}

abbrev pub decreases-loop-blocks : goal.decreases-loop-blocks
decreases-loop-blocks l = block_count l.area l.per_block - l.at
