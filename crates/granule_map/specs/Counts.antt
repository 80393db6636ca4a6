-- What holds of the counts that the table keeps.
use Rattle.std.specs.Prelude.{◌≡◌, ℕ, ◌<◌, ◌^◌, List, length}
use Rattle.granule_map.specs.{StateLists.States, StateLists.count_of, declared.states.GranuleState.GranuleState}

-- Each granule has both of its marks, there is memory for changes, and the counts are those of the states.
pub record IsCountOf (map : States) (unclean : List ℕ) (free dirty : ℕ) : Type 0 where
  pub each : length unclean ≡ length map.states
  pub few : length map.states < 2 ^ 32
  pub spare : 0 < map.spare
  pub free_is : free ≡ count_of map.states GranuleState.Free
  pub dirty_is : dirty ≡ count_of map.states GranuleState.Dirty
