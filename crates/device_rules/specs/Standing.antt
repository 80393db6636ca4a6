-- What every legal journal keeps, so that one more entry keeps the holdings.
use Rattle.std.specs.Prelude.{◌≡◌, ℕ, ◌+◌, ◌-◌, ◌%◌, ◌<◌, ◌≤◌, true, false, List, [], length, map, count_by, Some}
use Rattle.std.specs.List.{AllByRecursion}
use Rattle.cci_codec.specs.dcd_base.specs.{Limits.extents_supported, Words.has_granule, Words.has_in_runs, Words.has_tag, Words.is_zero_tag, declared.capacity.Extent.Extent, declared.capacity.Tag.Tag}
use Rattle.cci_codec.specs.dcd_base.specs.declared.ids.HostId.{HostId}
use Rattle.extent_list.specs.media_map.specs.{Places.region_at, Places.run_of, region_config.specs.Configurations.Configuration}
use Rattle.extent_list.specs.media_map.specs.region_config.specs.Granules.{base_of, is_supported, region_of, region_spec}
use Rattle.device_rules.specs.{Tags.region_of_offer, Tags.tag_runs, Pictures.Picture, Pictures.count_on, Pictures.extents_at, Pictures.lives}

-- An extent of some bytes in the region, made of pieces of that size.
pub record IsMade (c : Configuration) (size : ℕ) (h : HostId) (r : ℕ) (x : Extent) : Type 0 where
  pub known : r < length c.regions
  pub some : 0 < x.length
  pub from : base_of c h r ≤ x.start
  pub within : x.start + x.length ≤ base_of c h r + (region_spec c r).length
  pub begins : (x.start - base_of c h r) % size ≡ 0
  pub ends : x.length % size ≡ 0

-- It is made of present blocks of its region.
pub record IsHome (c : Configuration) (p : Picture) (h : HostId) (x : Extent) : Type 0 where
  pub region : ℕ
  pub made : IsMade c (p.block region) h region x

-- The tag is open and stands for all granules of the extent.
pub record IsUnderTag (c : Configuration) (p : Picture) (h : HostId) (x : Extent) : Type 0 where
  pub open_tag : has_tag p.tags x.tag ≡ true
  pub covered : (g : ℕ) → has_granule (run_of c h x) g ≡ true → has_in_runs (tag_runs c (p.last x.tag)) g ≡ true

-- So it is of each extent of a shareable region.
abbrev pub IsUnder : Configuration → Picture → HostId → Extent → Type 0
IsUnder c p h x = (region_spec c (region_at c h x.start)).shareable ≡ true → IsUnderTag c p h x

-- An offer has an extent, and all its extents begin in one region.
abbrev pub IsTogether : Configuration → HostId → List Extent → Type 0
IsTogether c h offer = (0 < length offer) × AllByRecursion (λ x. region_at c h x.start ≡ region_of_offer c h offer) offer

-- An open tag is not zero. It stands for the extents of its last offer: one at least, made of present blocks of one
-- shareable region, of which no two share a granule.
pub record IsOpen (c : Configuration) (p : Picture) (t : Tag) : Type 0 where
  pub host : HostId
  pub extents : List Extent
  pub region : ℕ
  pub offer : p.last t ≡ Some (host, extents)
  pub known : host < c.hosts
  pub shareable : (region_spec c region).shareable ≡ true
  pub each : AllByRecursion (IsMade c (p.block region) host region) extents
  pub some : 0 < length extents
  pub apart : (g : ℕ) → count_on c host g extents ≤ 1
  pub nonzero : is_zero_tag t ≡ false

-- What holds also within a command, before its tags have ended.
pub record Stands (c : Configuration) (p : Picture) : Type 0 where
  -- only hosts of the device have extents
  pub no_accepted : (h : HostId) → c.hosts ≤ h → p.accepted h ≡ []
  pub no_offers : (h : HostId) → c.hosts ≤ h → p.offers h ≡ []
  -- a host holds the granules of its accepted extents
  pub held : (h : HostId) (g : ℕ) → p.holds h g ≡ has_in_runs (map (run_of c h) (p.accepted h)) g
  -- no two extents of a host share a granule, accepted or offered
  pub once : (h : HostId) (g : ℕ) → count_on c h g (extents_at p h) ≤ 1
  -- nor do two hosts, where nothing is shared
  pub one : (h k : HostId) (g : ℕ) → (region_spec c (region_of c g)).shareable ≡ false →
      0 < count_on c h g (extents_at p h) → 0 < count_on c k g (extents_at p k) → h ≡ k
  -- no two open tags stand for one granule
  pub apart : (g : ℕ) → count_by (λ t. has_in_runs (tag_runs c (p.last t)) g) p.tags ≤ 1
  -- a host has so many extents at most
  pub few : (h : HostId) → length (extents_at p h) ≤ extents_supported
  -- each extent is made of present blocks, and under a tag where it is shared
  pub home : (h : HostId) → AllByRecursion (IsHome c p h) (extents_at p h)
  pub under : (h : HostId) → AllByRecursion (IsUnder c p h) (extents_at p h)
  -- each offer has an extent, and lies in one region
  pub together : (h : HostId) → AllByRecursion (IsTogether c h) (p.offers h)
  -- open tags stand for something
  pub opened : (t : Tag) → has_tag p.tags t ≡ true → IsOpen c p t
  -- each region supports its present block size
  pub blocks : (r : ℕ) → r < length c.regions → is_supported (region_spec c r) (p.block r) ≡ true

-- What holds after each entry: the open tags are live as well.
pub record Sound (c : Configuration) (p : Picture) : Type 0 where
  pub stands : Stands c p
  pub live : (t : Tag) → has_tag p.tags t ≡ true → lives c p t ≡ true
