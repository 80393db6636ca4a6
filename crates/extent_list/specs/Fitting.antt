-- Extents at the front of a list that break no rule of an extent.
use Rattle.std.specs.Prelude.{◌≡◌, ℕ, ◌<◌, Bool, ◌&&◌, not, ◌==◌, IsTrue, false, List, None, length, slice_index_or, take}
use Rattle.dcd_base.specs.declared.{capacity.Extent.Extent, ids.HostId.HostId}
use Rattle.extent_list.specs.{ExtentLists.is_in, ExtentLists.is_whole, ExtentLists.lies_in, Listing.misplaced, Listing.not_whole, Listing.overlapping, declared.placing.Area.Area}
use Rattle.media_map.specs.{Places.bounds_of, Places.has_units, Places.region_at, region_config.specs.Configurations.Configuration, region_config.specs.Granules.region_spec}

-- what a region says of the extents in it, and whether one has some bytes, which the region has, and is made of its blocks
abbrev pub area_of : Configuration → HostId → ℕ → Area
area_of c h r = record { bounds = bounds_of c h r; block = (region_spec c r).block; shareable = (region_spec c r).shareable }

abbrev pub fits_area : Area → Extent → Bool
fits_area a x = has_units a.bounds x.start x.length a.block

-- The extent has some bytes, which lie in the region of its first address and are made of its blocks.
pub record IsPlaced (c : Configuration) (h : HostId) (r : ℕ) (x : Extent) : Type 0 where
  pub some : 0 < x.length
  pub at : region_at c h x.start ≡ r
  pub placed : (n : ℕ) → misplaced c h r n x ≡ None

-- The extent lies in the owner, and is all of it in a shareable region.
pub record IsOwned (shareable : Bool) (owner x : Extent) : Type 0 where
  pub inside : IsTrue (lies_in x owner)
  pub whole : shareable && not ((x.start == owner.start) && (x.length == owner.length)) ≡ false

-- Both.
pub record IsFit (c : Configuration) (h : HostId) (r : ℕ) (owner x : Extent) : Type 0 where
  pub placed : IsPlaced c h r x
  pub owned : IsOwned (region_spec c r).shareable owner x

-- The extent lies in an owner, all of it in a shareable region, and shares no address with those before it.
pub record IsOwnedBehind (shareable : Bool) (owners before : List Extent) (x : Extent) : Type 0 where
  pub inside : IsTrue (is_in owners x)
  pub apart : overlapping before x ≡ None
  pub whole : shareable && not (is_whole owners x) ≡ false

-- The extent breaks no rule beside its owner and those before it.
pub record Fits (c : Configuration) (h : HostId) (owners before : List Extent) (x : Extent) : Type 0 where
  pub placed : misplaced c h (region_at c h x.start) (length before) x ≡ None
  pub inside : IsTrue (is_in owners x)
  pub apart : overlapping before x ≡ None
  pub whole : not_whole c h owners (length before) x ≡ None

-- So many extents from the front of the list do.
abbrev pub FrontFits : Configuration → HostId → List Extent → List Extent → ℕ → Type 0
FrontFits c h owners list n = (i : ℕ) (d : Extent) → i < n → Fits c h owners (take i list) (slice_index_or list i d)
