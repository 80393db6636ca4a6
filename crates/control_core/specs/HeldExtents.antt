-- The extents that a host of the device has accepted.
use Rattle.std.specs.Prelude.{ℕ, ◌<◌, ◌≤◌, IsTrue, List, length, slice_index_or}
use Rattle.cci_codec.specs.dcd_base.specs.declared.{capacity.Extent.Extent, ids.HostId.HostId}
use Rattle.extent_list.specs.media_map.specs.{region_config.specs.Configurations.Configuration, Places.is_granular, Places.run_of}

-- An extent is made of granules of one region: the device has 4096 at most.
pub record IsHeld (c : Configuration) (h : HostId) (x : Extent) : Type 0 where
  pub granular : IsTrue (is_granular c h x.start x.length)
  pub granules : (run_of c h x).count ≤ 4096

-- So are all of them, and a host has 64 at most.
pub record AreHeld (c : Configuration) (h : HostId) (xs : List Extent) : Type 0 where
  pub few : length xs ≤ 64
  pub each : (k : ℕ) (d : Extent) → k < length xs → IsHeld c h (slice_index_or xs k d)
