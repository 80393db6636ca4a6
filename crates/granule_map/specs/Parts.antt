-- A change of adjacent granules at once.
use Rattle.std.specs.Prelude.{ℕ, ◌+◌, ◌-◌, Bool, ◌==◌, List, ◌++◌, map, take, drop, replicate}
use Rattle.dcd_base.specs.declared.media.Run.{Run}
use Rattle.granule_map.specs.Tables.{Cell}

-- the granules from the first up to the one before the end
abbrev pub between : ℕ → ℕ → Run
between first end = record { first = first; count = end - first }

-- the items with this one at each place of the run
abbrev pub with_part : {X : Type 0} → Run → X → List X → List X
with_part run x xs = take run.first xs ++ replicate run.count x ++ drop (run.first + run.count) xs

-- a granule has to be zeroed before it is free, or has not
abbrev pub marked_unclean : Bool → Cell → Cell
marked_unclean unclean cell = record cell { unclean = unclean }

-- flags that are kept as numbers: 1 says true
unfoldable pub flags_in : List ℕ → List Bool
flags_in bytes = map (λ n. n == 1) bytes
