use Rattle.std.proofs.Common.{◌≡◌, ◌-◌, ◌≤◌, max}
use Rattle.granule_map.{specs.Blocks.block_count, specs.Blocks.is_block_free, specs.Blocks.longest_free_run, proofs.RunSteps.longest_from}
use Rattle.granule_map.proofs.blocks.longest_run_of.Given as goal

abbrev pub invariant-loop-blocks : goal.invariant-loop-blocks
invariant-loop-blocks l = record {
  within : l.at ≤ block_count l.area l.per_block;
  rest : max l.longest (longest_from (is_block_free l.map.states l.area l.per_block) (block_count l.area l.per_block) l.at) ≡ longest_free_run l.map.states l.area l.per_block;
}

abbrev pub decreases-loop-blocks : goal.decreases-loop-blocks
decreases-loop-blocks l = block_count l.area l.per_block - l.at
