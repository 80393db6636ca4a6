-- Which granules a turn of the sanitizer zeroes, and what it leaves. `dirty` tells whether a granule is dirty.
use Rattle.std.specs.Prelude.{◌≡◌, ℕ, suc, ◌+◌, ◌-◌, ◌<◌, ◌≤◌, Bool, if◌then◌else◌, List, [], ◌∷◌, fold, map, take, slice_index_or, sum_by, Option, Some, None}
use Rattle.region_config.specs.{Configurations.Configuration, Granules.first_granule, Granules.granule_total, Granules.region_of, Granules.same_region, dcd_base.specs.Words.has_in_runs}
use Rattle.region_config.specs.dcd_base.specs.declared.media.Run.{Run}
use Rattle.granule_map.specs.{Choices.joined, Choices.lowest_from, Choices.passing, StateLists.with_run, declared.states.GranuleState.GranuleState}

-- the granules of a turn: the lowest dirty ones, so many, or all where there are fewer
abbrev pub lowest_dirty : Configuration → (ℕ → Bool) → ℕ → List ℕ
lowest_dirty c dirty n = take n (passing dirty (granule_total c))

-- granules, by the first one and how many there are, as a run
abbrev pub run_of_pair : ℕ × ℕ → Run
run_of_pair granules = record { first = granules.0; count = granules.1 }

-- the same granules as the longest runs within regions, by rising number
abbrev pub scrub_runs : Configuration → (ℕ → Bool) → ℕ → List Run
scrub_runs c dirty n = map run_of_pair (joined (same_region c) (lowest_dirty c dirty n))

-- the states once each of the runs is free
abbrev pub freed : List GranuleState → List Run → List GranuleState
freed states runs = fold (λ now run. with_run now run GranuleState.Free) states runs

-- Each granule of the runs is free, and each other one is as it was.
abbrev pub AreFreed : List GranuleState → List GranuleState → List Run → Type 0
AreFreed old new runs = (g : ℕ) (d : GranuleState) → slice_index_or new g d ≡ (if has_in_runs runs g then GranuleState.Free else slice_index_or old g d)

-- how many granules are in the runs
abbrev pub granules_of_runs : List Run → ℕ
granules_of_runs runs = sum_by (λ run. run.count) runs

-- Granules of one region of the device, at least one.
pub record IsInRegion (c : Configuration) (run : Run) : Type 0 where
  pub some : 0 < run.count
  pub known : run.first < granule_total c
  pub within : run.first + run.count ≤ first_granule c (suc (region_of c run.first))

-- What the lowest run of dirty granules from one on leaves to be zeroed: no run where none is left.
pub record IsNextDirtyRun (c : Configuration) (dirty : ℕ → Bool) (from most : ℕ) (run : Run) : Type 0 where
  pub runs : joined (same_region c) (lowest_from dirty (granule_total c) from most)
      ≡ (run.first, run.count) ∷ joined (same_region c) (lowest_from dirty (granule_total c) (run.first + run.count) (most - run.count))
  pub later : from < run.first + run.count
  pub few : run.count ≤ most
  pub below : run.first + run.count ≤ granule_total c
  pub in_region : IsInRegion c run

abbrev pub NextDirtyRun : Configuration → (ℕ → Bool) → ℕ → ℕ → Option Run → Type 0
NextDirtyRun c dirty from most None = lowest_from dirty (granule_total c) from most ≡ []
NextDirtyRun c dirty from most (Some run) = IsNextDirtyRun c dirty from most run
