use Rattle.std.proofs.Common.{◌≡◌, ◌-◌, ◌≤◌}
use Rattle.granule_map.{specs.Blocks.block_count, specs.Blocks.is_block_free, specs.Blocks.lowest_free_run, proofs.RunSteps.lowest_start}
use Rattle.granule_map.proofs.blocks.lowest_block.Given as goal

abbrev pub invariant-loop-blocks : goal.invariant-loop-blocks
invariant-loop-blocks l = record {
  within : l.at ≤ block_count l.area l.per_block;
  rest : lowest_start (is_block_free l.map.states l.area l.per_block) (block_count l.area l.per_block) l.count l.at ≡ lowest_free_run l.map.states l.area l.per_block l.count;
}

abbrev pub decreases-loop-blocks : goal.decreases-loop-blocks
decreases-loop-blocks l = block_count l.area l.per_block - l.at
