-- Blocks of an area: its granules in groups of one size, from its first granule on.
use Rattle.std.specs.Prelude.{◌≡◌, ℕ, ◌+◌, ◌*◌, ◌/◌, ◌%◌, ◌<◌, ◌≤◌, Bool, List, length, Option, option_map}
use Rattle.std.specs.List.{list_all, range_with_len}
use Rattle.dcd_base.specs.declared.media.Run.{Run}
use Rattle.granule_map.specs.{declared.states.GranuleState.GranuleState, Choices.longest_run, Choices.lowest_run, Choices.passing, StateLists.is_free_at}

-- The area is made of whole blocks, and all of it is in the list.
pub record IsArea (states : List GranuleState) (area : Run) (per_block : ℕ) : Type 0 where
  pub some : 0 < per_block
  pub whole : area.count % per_block ≡ 0
  pub within : area.first + area.count ≤ length states

abbrev pub block_count : Run → ℕ → ℕ
block_count area per_block = area.count / per_block

-- a block is free where all its granules are
abbrev pub is_block_free : List GranuleState → Run → ℕ → ℕ → Bool
is_block_free states area per_block k = list_all (is_free_at states) (range_with_len (area.first + k * per_block) per_block)

-- how many blocks are free, and the most of them that lie together
abbrev pub free_block_count : List GranuleState → Run → ℕ → ℕ
free_block_count states area per_block = length (passing (is_block_free states area per_block) (block_count area per_block))

abbrev pub longest_free_run : List GranuleState → Run → ℕ → ℕ
longest_free_run states area per_block = longest_run (is_block_free states area per_block) (block_count area per_block)

-- the number of the block at which so many free blocks lie together, the lowest
abbrev pub lowest_free_run : List GranuleState → Run → ℕ → ℕ → Option ℕ
lowest_free_run states area per_block blocks = lowest_run (is_block_free states area per_block) (block_count area per_block) blocks

-- so many blocks from one on, as a run of granules
abbrev pub run_of_blocks : Run → ℕ → ℕ → ℕ → Run
run_of_blocks area per_block blocks k = record { first = area.first + k * per_block; count = blocks * per_block }

-- the lowest run of so many free blocks, as a run of granules
abbrev pub lowest_run_in : List GranuleState → Run → ℕ → ℕ → Option Run
lowest_run_in states area per_block blocks =
    option_map (run_of_blocks area per_block blocks) (lowest_free_run states area per_block blocks)
