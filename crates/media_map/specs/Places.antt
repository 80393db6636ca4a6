-- Where an address of a host lies.
use Rattle.region_config.specs.Configurations.{Configuration}
use Rattle.region_config.specs.Granules.{region_spec, regions_of, base_of, granule_size, granule_total, first_granule, region_of}
use Rattle.region_config.specs.dcd_base.specs.{Words.zero_tag, declared.capacity.Extent.Extent, declared.capacity.Tag.Tag, declared.failures.AccessFault.AccessFault}
use Rattle.region_config.specs.dcd_base.specs.declared.{failures.AccessFault.TheVariants.Misaligned, failures.AccessFault.TheVariants.OutsideRegions, ids.HostId.HostId, media.Place.Place}
use Rattle.region_config.specs.dcd_base.specs.declared.media.Run.{Run}
use Rattle.std.specs.Prelude.{not, ◌==◌, ◌≡◌, ℕ, suc, ◌+◌, ◌-◌, ◌*◌, ◌/◌, ◌%◌, ◌<◌, ◌≤◌, Bool, ◌&&◌, nat_le, nat_lt, length, Option, Some, None, unwrap_or, if◌then◌else◌}
use Rattle.std.specs.{declared.result.Result.Result, declared.result.Result.TheVariants.Ok, declared.result.Result.TheVariants.Err, List.find}
use Rattle.media_map.specs.declared.bounds.Bounds.{Bounds}

-- whether the region has the host's address
abbrev pub has_address : Configuration → HostId → ℕ → ℕ → Bool
has_address c h d r = nat_le (base_of c h r) d && nat_lt d (base_of c h r + (region_spec c r).length)

-- where a region lies for a host
abbrev pub bounds_of : Configuration → HostId → ℕ → Bounds
bounds_of c h r = record { base = base_of c h r; length = (region_spec c r).length }

-- whether an address or a whole range is within the bounds, and whether units begin and end where the range does
abbrev pub is_within : Bounds → ℕ → Bool
is_within b d = nat_le b.base d && nat_lt d (b.base + b.length)

abbrev pub has_range : Bounds → ℕ → ℕ → Bool
has_range b start bytes = nat_le b.base start && nat_le (start + bytes) (b.base + b.length)

abbrev pub is_made_of : Bounds → ℕ → ℕ → ℕ → Bool
is_made_of b start bytes unit = ((start - b.base) % unit == 0) && (bytes % unit == 0)

abbrev pub has_units : Bounds → ℕ → ℕ → ℕ → Bool
has_units b start bytes unit = not (bytes == 0) && has_range b start bytes && is_made_of b start bytes unit

-- The place of a host's address: p says which region, granule and word it is.
pub record IsPlace (c : Configuration) (h : HostId) (d : ℕ) (p : Place) : Type 0 where
  pub aligned : d % 8 ≡ 0
  pub known : p.region < length c.regions
  pub from : base_of c h p.region ≤ d
  pub below : d < base_of c h p.region + (region_spec c p.region).length
  pub granule : p.granule ≡ first_granule c p.region + (d - base_of c h p.region) / granule_size c p.region
  pub word : p.word ≡ (d - base_of c h p.region) % granule_size c p.region / 8

-- The place is a word of the device: its granule is one of its region's, and the word lies in the granule.
pub record IsWord (c : Configuration) (p : Place) : Type 0 where
  pub known : p.region < length c.regions
  pub from : first_granule c p.region ≤ p.granule
  pub to : p.granule < first_granule c (suc p.region)
  pub inside : 8 * p.word < granule_size c p.region

abbrev pub place_in : Configuration → HostId → ℕ → ℕ → Place
place_in c h d r = record {
  region = r;
  granule = first_granule c r + (d - base_of c h r) / granule_size c r;
  word = (d - base_of c h r) % granule_size c r / 8;
}

abbrev pub placed : Configuration → HostId → ℕ → Option ℕ → Result Place AccessFault
placed c h d None = Err OutsideRegions
placed c h d (Some r) = Ok (place_in c h d r)

-- the place, or why there is none
abbrev pub locate : Configuration → HostId → ℕ → Result Place AccessFault
locate c h d = if d % 8 == 0 then placed c h d (find (has_address c h d) (regions_of c)) else Err Misaligned

-- the region in which an address lies, else region 0
abbrev pub region_at : Configuration → HostId → ℕ → ℕ
region_at c h d = unwrap_or (find (has_address c h d) (regions_of c)) 0

-- the granules of an extent
abbrev pub run_of : Configuration → HostId → Extent → Run
run_of c h x = let r = region_at c h x.start in record {
  first = first_granule c r + (x.start - base_of c h r) / granule_size c r;
  count = x.length / granule_size c r;
}

-- the run of a range of addresses, where the range is made of granules of one region
abbrev pub is_granular : Configuration → HostId → ℕ → ℕ → Bool
is_granular c h start bytes = let r = region_at c h start in
    not (bytes == 0)
    && nat_le (base_of c h r) start && nat_le (start + bytes) (base_of c h r + (region_spec c r).length)
    && ((start - base_of c h r) % granule_size c r == 0) && (bytes % granule_size c r == 0)

abbrev pub run_in : Configuration → HostId → ℕ → ℕ → Option Run
run_in c h start bytes =
    if is_granular c h start bytes
    then Some (run_of c h (record { start = start; length = bytes; tag = zero_tag; sequence = 0 }))
    else None

-- where a run begins for the host, and how many bytes it has
abbrev pub start_of : Configuration → HostId → Run → ℕ
start_of c h run = let r = region_of c run.first in base_of c h r + (run.first - first_granule c r) * granule_size c r

abbrev pub bytes_of_run : Configuration → Run → ℕ
bytes_of_run c run = run.count * granule_size c (region_of c run.first)

-- the address of a place, and the extent of a run
abbrev pub address_of : Configuration → HostId → Place → ℕ
address_of c h p = base_of c h p.region + (p.granule - first_granule c p.region) * granule_size c p.region + 8 * p.word

abbrev pub extent_of : Configuration → HostId → Run → Tag → ℕ → Extent
extent_of c h run tag sequence = record { start = start_of c h run; length = bytes_of_run c run; tag = tag; sequence = sequence }

-- Adjacent granules of one region, at least one.
pub record IsRun (c : Configuration) (run : Run) : Type 0 where
  pub some : 0 < run.count
  pub known : run.first < granule_total c
  pub within : run.first + run.count ≤ first_granule c (suc (region_of c run.first))

-- The run has the granules of this range of the host's addresses.
pub record IsRunOf (c : Configuration) (h : HostId) (from size : ℕ) (of : Run) : Type 0 where
  pub run : IsRun c of
  pub start : start_of c h of ≡ from
  pub bytes : bytes_of_run c of ≡ size

-- No other word of the device has this address for the host.
abbrev pub NoOtherWordAt : Configuration → HostId → ℕ → Place → Type 0
NoOtherWordAt c h d p = (other : Place) → IsWord c other → address_of c h other ≡ d → other ≡ p

-- For every host this offset in the place's region is the place.
abbrev pub EveryHostHas : Configuration → Place → ℕ → Type 0
EveryHostHas c p offset = (h : HostId) → h < c.hosts → locate c h (base_of c h p.region + offset) ≡ Ok p
