-- The regions of a configuration, their block sizes, and how granules are numbered.
use Rattle.std.specs.Prelude.{suc, zero, ℕ, ◌+◌, ◌*◌, ◌/◌, ◌%◌, ◌^◌, Bool, ◌==◌, nat_lt, List, length, map, slice_index, slice_index_or, unwrap_or, filter}
use Rattle.std.specs.{Int.w64, Int.trailing_zeros, List.find, List.filter, List.list_any, List.range_with_len, List.enumerate_from}
use Rattle.dcd_base.specs.declared.ids.HostId.{HostId}
use Rattle.region_config.specs.{Configurations.Configuration, declared.region_spec.RegionSpec.RegionSpec}

-- a region past the last has no length
abbrev pub no_region : RegionSpec
no_region = record { decode_units = 0; length = 0; block = 0; sizes = 0; handle = 0; sanitize = Bool.false; shareable = Bool.false }

abbrev pub region_spec : Configuration → ℕ → RegionSpec
region_spec c r = slice_index_or c.regions r no_region

-- the hosts of the device
abbrev pub hosts_of : Configuration → List HostId
hosts_of c = range_with_len 0 c.hosts

-- the numbers of the regions
abbrev pub regions_of : Configuration → List ℕ
regions_of c = range_with_len 0 (length c.regions)

-- where the region begins for the host
abbrev pub base_of : Configuration → HostId → ℕ → ℕ
base_of c h r = slice_index c.bases (h * length c.regions + r)

-- the block sizes that the region supports, the smallest first: bit n of its mask says 2 ^ n
unfoldable pub sizes_in : RegionSpec → List ℕ
sizes_in spec = map (λ n. 2 ^ n) (filter (λ n. spec.sizes / 2 ^ n % 2 == 1) (range_with_len 0 64))

abbrev pub is_supported : RegionSpec → ℕ → Bool
is_supported spec size = list_any (λ n. n == size) (sizes_in spec)

-- a granule is the smallest of them
abbrev pub granule_size : Configuration → ℕ → ℕ
granule_size c r = 2 ^ trailing_zeros w64 (region_spec c r).sizes

abbrev pub region_granules : Configuration → ℕ → ℕ
region_granules c r = (region_spec c r).length / granule_size c r

-- granules are numbered through the device, those of region 0 first
abbrev pub first_granule : Configuration → ℕ → ℕ
first_granule c zero = 0
first_granule c (suc r) = first_granule c r + region_granules c r

abbrev pub granule_total : Configuration → ℕ
granule_total c = first_granule c (length c.regions)

-- the region of a granule
abbrev pub region_of : Configuration → ℕ → ℕ
region_of c g = unwrap_or (find (λ r. nat_lt g (first_granule c (suc r))) (regions_of c)) 0

-- whether two granules are of one region, so that they may stand in one run
abbrev pub same_region : Configuration → ℕ → ℕ → Bool
same_region c g next = region_of c g == region_of c next

-- the configuration with these blocks
abbrev pub with_blocks : Configuration → (ℕ → ℕ) → Configuration
with_blocks c block = record c { regions = map (λ spec. record spec.1 { block = block spec.0 }) (enumerate_from 0 c.regions) }
