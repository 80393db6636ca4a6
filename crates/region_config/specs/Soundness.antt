-- What holds of every configuration without fault.
use Rattle.std.specs.Prelude.{◌≡◌, ℕ, suc, ◌*◌, ◌%◌, ◌^◌, ◌<◌, ◌≤◌, IsTrue, length}
use Rattle.region_config.specs.{Configurations.Configuration, Granules.base_of, Granules.granule_size, Granules.granule_total, Granules.is_supported, Granules.region_spec}
use Rattle.region_config.specs.Setups.{decode_end, unit}

-- A region is so long and has such granules and blocks:
-- the granule is a power of two from 64 bytes to 1 TiB, and the length and the block are made of whole granules.
pub record IsSoundRegion (c : Configuration) (r : ℕ) : Type 0 where
  pub sizes : 0 < (region_spec c r).sizes
  pub exponent : ℕ
  pub from : 6 ≤ exponent
  pub to : exponent ≤ 40
  pub granule : granule_size c r ≡ 2 ^ exponent
  pub some : 0 < (region_spec c r).length
  pub decoded : (region_spec c r).length ≤ (region_spec c r).decode_units * unit
  pub whole : (region_spec c r).length % granule_size c r ≡ 0
  pub supported : IsTrue (is_supported (region_spec c r) (region_spec c r).block)
  pub block : granule_size c r ≤ (region_spec c r).block
  pub whole_block : (region_spec c r).block % granule_size c r ≡ 0

-- A host's region begins at a multiple of 256 MiB and is decoded up to 2 ^ 52 at most.
pub record IsSoundSeat (c : Configuration) (h r : ℕ) : Type 0 where
  pub aligned : base_of c h r % unit ≡ 0
  pub ends : decode_end c h r ≤ 2 ^ 52

-- Hosts, regions and granules are within their limits, each region and each host's part of it is sound,
-- and a host's regions lie apart by rising address.
pub record IsSound (c : Configuration) : Type 0 where
  pub some_host : 0 < c.hosts
  pub hosts : c.hosts ≤ 16
  pub some_region : 0 < length c.regions
  pub regions : length c.regions ≤ 8
  pub each : (r : ℕ) → r < length c.regions → IsSoundRegion c r
  pub seats : (h r : ℕ) → h < c.hosts → r < length c.regions → IsSoundSeat c h r
  pub rising : (h r : ℕ) → h < c.hosts → suc r < length c.regions → decode_end c h r ≤ base_of c h (suc r)
  pub some_granule : 0 < granule_total c
  pub granules : granule_total c ≤ 4096
