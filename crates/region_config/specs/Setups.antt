-- Which configurations are refused, and why.
use Rattle.dcd_base.specs.Words.{◌or◌}
use Rattle.std.specs.Prelude.{◌≡◌, ◌≢◌, Result, Ok, Err, ℕ, zero, suc, ◌+◌, ◌*◌, ◌%◌, ◌^◌, max, Bool, false, ◌||◌, not, ◌==◌, nat_le, nat_lt, length, fold, Option, Some, None, if◌then◌else◌}
use Rattle.region_config.specs.{Configurations.Configuration, Granules.region_spec, Granules.base_of, Granules.sizes_in, Granules.is_supported, Granules.granule_total}
use Rattle.region_config.specs.declared.{faults.ConfigFault.ConfigFault, region_spec.RegionSpec.RegionSpec}

-- this fault, where the test says so
abbrev pub faults : {F : Type 0} → Bool → F → Option F
faults test fault = if test then Some fault else None

-- the first fault that a number below n has
abbrev pub first_below : {F : Type 0} → (ℕ → Option F) → ℕ → Option F
first_below check zero = None
first_below check (suc n) = first_below check n or check n

abbrev pub each_region : Configuration → (ℕ → Option ConfigFault) → Option ConfigFault
each_region c check = first_below check (length c.regions)

-- each host and region, host by host
abbrev pub each_seat : Configuration → (ℕ → ℕ → Option ConfigFault) → Option ConfigFault
each_seat c check = first_below (λ h. each_region c (check h)) c.hosts

abbrev pub unit : ℕ
unit = 2 ^ 28

-- where the region's decode range ends for the host
abbrev pub decode_end : Configuration → ℕ → ℕ → ℕ
decode_end c h r = base_of c h r + (region_spec c r).decode_units * unit

abbrev pub bad_count : ℕ → ℕ → Bool
bad_count hosts regions = nat_lt hosts 1 || nat_lt 16 hosts || nat_lt regions 1 || nat_lt 8 regions

abbrev pub bad_base : Configuration → ℕ → ℕ → Bool
bad_base c h r = not (base_of c h r % unit == 0) || nat_lt (2 ^ 52) (decode_end c h r)

abbrev pub bad_sizes : RegionSpec → Bool
bad_sizes spec = (spec.sizes == 0) || not (spec.sizes % 2 ^ 6 == 0) || nat_le (2 ^ 41) spec.sizes || not (is_supported spec spec.block)

unfoldable pub largest_size : RegionSpec → ℕ
largest_size spec = fold max 0 (sizes_in spec)

abbrev pub bad_length : RegionSpec → Bool
bad_length spec = (spec.length == 0) || not (spec.length % largest_size spec == 0) || nat_lt (spec.decode_units * unit) spec.length

abbrev pub bad_order : Configuration → ℕ → ℕ → Bool
bad_order c h zero = false
bad_order c h (suc r) = nat_lt (base_of c h (suc r)) (decode_end c h r)

-- the six faults
abbrev pub count_fault : Configuration → Option ConfigFault
count_fault c = faults (bad_count c.hosts (length c.regions)) ConfigFault.Count

abbrev pub base_fault : Configuration → Option ConfigFault
base_fault c = each_seat c (λ h r. faults (bad_base c h r) (ConfigFault.Base h r))

abbrev pub sizes_fault : Configuration → Option ConfigFault
sizes_fault c = each_region c (λ r. faults (bad_sizes (region_spec c r)) (ConfigFault.BlockSize r))

abbrev pub length_fault : Configuration → Option ConfigFault
length_fault c = each_region c (λ r. faults (bad_length (region_spec c r)) (ConfigFault.Length r))

abbrev pub order_fault : Configuration → Option ConfigFault
order_fault c = each_seat c (λ h r. faults (bad_order c h r) (ConfigFault.Overlap h r))

abbrev pub total_fault : Configuration → Option ConfigFault
total_fault c = faults (nat_lt 4096 (granule_total c)) (ConfigFault.TooManyGranules (granule_total c))

-- the first of them, each over all hosts and regions before the next
unfoldable pub config_fault : Configuration → Option ConfigFault
config_fault c = count_fault c or base_fault c or sizes_fault c or length_fault c or order_fault c or total_fault c

-- What `new` answers: this configuration, where it has no fault, or its first fault.
abbrev pub Makes : Configuration → Result Configuration ConfigFault → Type 0
Makes c (Ok made) = (config_fault c ≡ None) × (made ≡ c)
Makes c (Err fault) = fault ≢ ConfigFault.NoMemory → config_fault c ≡ Some fault
