use Rattle.std.proofs.Common.{◌≡◌, ◌+◌, ◌-◌, ◌++◌, length, map}
use Rattle.granule_map.specs.{Blocks.block_count, Blocks.is_block_free, Choices.joined, Choices.lowest_from, StateLists.is_free_at}
use Rattle.selection.specs.Selections.{always_together, free_runs, granules_of_blocks}
use Rattle.selection.proofs.lowest.find_lowest.Given as goal

-- the runs that were found, and those of what is left, are all of them; so are their blocks
abbrev pub invariant-loop-first : goal.invariant-loop-first
invariant-loop-first l = record {
  runs :
      l.runs ++ map (granules_of_blocks l.area l.per_block) (joined always_together (lowest_from (is_block_free l.map.states l.area l.per_block) (block_count l.area l.per_block) l.at l.left))
      ≡ free_runs (is_free_at l.map.states) l.area l.per_block l.blocks;
  wanting :
      l.left + length (lowest_from (is_block_free l.map.states l.area l.per_block) (block_count l.area l.per_block) 0 l.blocks)
      ≡ l.blocks + length (lowest_from (is_block_free l.map.states l.area l.per_block) (block_count l.area l.per_block) l.at l.left);
}

abbrev pub decreases-loop-first : goal.decreases-loop-first
decreases-loop-first l = block_count l.area l.per_block - l.at
