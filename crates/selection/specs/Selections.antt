-- Which blocks an offer is made of, and which rules a selection keeps. `free` tells whether a granule is free.
use Rattle.std.specs.Prelude.{◌≡◌, ℕ, ◌+◌, ◌-◌, ◌*◌, ◌<◌, ◌≤◌, Bool, IsTrue, IsFalse, true, not, nat_lt, List, [], ◌∷◌, map, take, Option, length, Some, None, option_map, option_to_list}
use Rattle.std.specs.List.{list_all, range_with_len}
use Rattle.extent_list.specs.{Listing.misplaced, Listing.overlapping, Listing.too_many_listed, dcd_codes.specs.Rules.◌breaks◌, dcd_codes.specs.Rules.each_in}
use Rattle.extent_list.specs.dcd_codes.specs.dcd_base.specs.{Words.◌or◌, Words.has_granule, Words.has_in_runs, Words.is_empty, declared.capacity.Extent.Extent, declared.ids.HostId.HostId}
use Rattle.extent_list.specs.{dcd_codes.specs.dcd_base.specs.declared.media.Run.Run, dcd_codes.specs.declared.rules.Rule.Rule, media_map.specs.Places.run_of}
use Rattle.extent_list.specs.media_map.specs.region_config.specs.Configurations.{Configuration}
use Rattle.granule_map.specs.{Blocks.block_count, Blocks.run_of_blocks, Choices.joined, Choices.longest_run, Choices.lowest_from, Choices.lowest_run, Choices.passing}

-- a block of the area, by its number, is free where all its granules are
abbrev pub is_free_block : (ℕ → Bool) → Run → ℕ → ℕ → Bool
is_free_block free area per_block k = list_all free (range_with_len (area.first + k * per_block) per_block)

-- how many blocks of the area are free, and the most of them that lie together
abbrev pub free_blocks : (ℕ → Bool) → Run → ℕ → ℕ
free_blocks free area per_block = length (passing (is_free_block free area per_block) (block_count area per_block))

abbrev pub longest_free : (ℕ → Bool) → Run → ℕ → ℕ
longest_free free area per_block = longest_run (is_free_block free area per_block) (block_count area per_block)

-- any two adjacent blocks of an area may stand in one run
abbrev pub always_together : ℕ → ℕ → Bool
always_together k next = true

-- blocks of the area, by the first one and how many there are, as a run of granules
abbrev pub granules_of_blocks : Run → ℕ → ℕ × ℕ → Run
granules_of_blocks area per_block blocks = run_of_blocks area per_block blocks.1 blocks.0

-- Free: the lowest free blocks, adjacent ones joined.
abbrev pub free_runs : (ℕ → Bool) → Run → ℕ → ℕ → List Run
free_runs free area per_block need =
    map (granules_of_blocks area per_block) (joined always_together (take need (passing (is_free_block free area per_block) (block_count area per_block))))

-- Contiguous: the lowest run of so many free blocks.
abbrev pub contiguous_runs : (ℕ → Bool) → Run → ℕ → ℕ → List Run
contiguous_runs free area per_block need =
    option_to_list (option_map (run_of_blocks area per_block need) (lowest_run (is_free_block free area per_block) (block_count area per_block) need))

-- fewer blocks than needed are free, or are free and lie together
abbrev pub too_few_free : ℕ → ℕ → Option Rule
too_few_free need have = nat_lt have need breaks Rule.TooFewFree need have

-- whether all granules of a run are free
abbrev pub all_free : (ℕ → Bool) → Run → Bool
all_free free run = list_all free (range_with_len run.first run.count)

-- Runs one behind another, from one granule up to another, each with a granule at least.
abbrev pub AreBetween : ℕ → ℕ → List Run → Type 0
AreBetween from to [] = from ≤ to
AreBetween from to (run ∷ runs) = (from ≤ run.first) × (0 < run.count) × AreBetween (run.first + run.count) to runs

-- What the lowest run of free blocks from one on leaves to be chosen: no run where none is left.
abbrev pub NextRun : (ℕ → Bool) → ℕ → ℕ → ℕ → Option (ℕ × ℕ) → Type 0
NextRun test limit from most None = lowest_from test limit from most ≡ []
NextRun test limit from most (Some blocks) =
    (joined always_together (lowest_from test limit from most) ≡ blocks ∷ joined always_together (lowest_from test limit (blocks.0 + blocks.1) (most - blocks.1)))
    × (from < blocks.0 + blocks.1) × (blocks.0 + blocks.1 ≤ limit) × (blocks.1 ≤ most)
    × (length (lowest_from test limit from most) ≡ blocks.1 + length (lowest_from test limit (blocks.0 + blocks.1) (most - blocks.1)))

-- Prescriptive: an extent that is misplaced in the region, has a granule that is not free, or shares an address with one before it.
abbrev pub free_extent_rule : Configuration → HostId → (ℕ → Bool) → ℕ → List Extent → Extent → Option Rule
free_extent_rule c h free r before x =
    misplaced c h r (length before) x
    or not (all_free free (run_of c h x)) breaks Rule.NotFree (length before)
    or overlapping before x

-- the rules of a prescribed list, the configuration being the one with the present blocks
abbrev pub prescribed_rule : Configuration → HostId → (ℕ → Bool) → ℕ → List Extent → Option Rule
prescribed_rule c h free r list =
    is_empty list breaks Rule.EmptyList
    or too_many_listed list
    or each_in list (free_extent_rule c h free r)

-- the runs of a list of the host's extents, in its order
abbrev pub listed_runs : Configuration → HostId → List Extent → List Run
listed_runs c h list = map (run_of c h) list

-- No granule is in two of the runs.
abbrev pub AreApart : List Run → Type 0
AreApart [] = Unit {0}
AreApart (run ∷ runs) = ((g : ℕ) → IsTrue (has_granule run g) → IsFalse (has_in_runs runs g)) × AreApart runs

-- whether all granules of the runs are free
abbrev pub are_free : (ℕ → Bool) → List Run → Bool
are_free free runs = list_all (all_free free) runs
