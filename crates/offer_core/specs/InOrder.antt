-- Responses that list extents of the oldest offer whole and in order.
use Rattle.std.specs.Prelude.{◌≡◌, ◌⊎◌, ℕ, ◌<◌, Bool, false, List, [], ◌∷◌, IsFalse, IsTrue, All, AllPairs, length}
use Rattle.extent_list.specs.{ExtentLists.overlaps, Listing.is_aligned, Listing.lies_in_region, dcd_codes.specs.dcd_base.specs.declared.capacity.Extent.Extent}
use Rattle.extent_list.specs.{dcd_codes.specs.dcd_base.specs.declared.ids.HostId.HostId, media_map.specs.region_config.specs.Configurations.Configuration}
use Rattle.extent_list.specs.media_map.specs.region_config.specs.Granules.{region_spec}
use Rattle.offer_core.specs.{declared.offer.Offer.Offer, Offerings.Offering}

-- The addresses are the same; tags and sequences are not read.
pub record SameAddresses (x y : Extent) : Type 0 where
  pub start : x.start ≡ y.start
  pub length : x.length ≡ y.length

-- The first list is some of the second, in order and each at most once; Is says what makes two the same.
pub data AreSome (Is : Extent → Extent → Type 0) : List Extent → List Extent → Type 0 where
  none : AreSome Is [] []
  taken : {x y : Extent} {xs ys : List Extent} → Is x y → AreSome Is xs ys → AreSome Is (x ∷ xs) (y ∷ ys)
  left : {y : Extent} {xs ys : List Extent} → AreSome Is xs ys → AreSome Is xs (y ∷ ys)

-- An extent of some bytes in the region, made of its blocks.
pub record IsSoundIn (c : Configuration) (h : HostId) (r : ℕ) (x : Extent) : Type 0 where
  pub some : 0 < x.length
  pub within : IsTrue (lies_in_region c h r x)
  pub aligned : IsTrue (is_aligned c h r x)

-- An offer of sound extents of the region that share no address.
pub record IsSoundOffer (c : Configuration) (h : HostId) (r : ℕ) (offer : Offer) : Type 0 where
  pub each : All (IsSoundIn c h r) offer.extents
  pub apart : AllPairs (λ x y. IsFalse (overlaps x y)) offer.extents

-- The response is one message and lists extents of the oldest offer, which are of one region, whole, in order and each at
-- most once; where the region is shareable, all of them or none.
pub record IsInOrder (c : Configuration) (h : HostId) (old : Offering) (more : Bool) (list : List Extent) : Type 0 where
  pub offer : Offer
  pub later : List Offer
  pub region : ℕ
  pub oldest : old.offers ≡ offer ∷ later
  pub sound : IsSoundOffer c h region offer
  pub alone : old.held ≡ []
  pub last : more ≡ false
  pub some : AreSome SameAddresses list offer.extents
  pub shared : IsTrue (region_spec c region).shareable → (list ≡ []) ⊎ (length list ≡ length offer.extents)
