-- What a host holds and is offered shares no address, and an offer that is listed bare is accepted as it is.
use Rattle.std.proofs.Common.{◌≡◌, ℕ, ◌<◌, false, List, [], ◌∷◌, map, refl}
use Rattle.std.proofs.lemmas.List.{length-map, Elements.All-from_recursion}
use Rattle.dcd_base.specs.declared.{capacity.Extent.Extent, ids.HostId.HostId}
use Rattle.extent_list.specs.ExtentLists.{marked, overlaps}
use Rattle.media_map.specs.Places.{region_at}
use Rattle.offer_core.proofs.Owners.{marked_all, owned}
use Rattle.offer_core.specs.InOrder.{AreSome, IsSoundIn, SameAddresses, none, taken, left}
use Rattle.region_config.specs.{Configurations.Configuration, Granules.with_blocks, Soundness.IsSound}
use Rattle.device_plain.specs.device_rules.proofs.{AllLeave.Behind, Going.all_behind, Holding.home_made}
use Rattle.device_plain.specs.device_rules.proofs.{InOrderResponses.all_apart, InOrderResponses.each_sound, InOrderResponses.made_there, InOrderResponses.once, ListSteps.each-change, OneLeave.loose}
use Rattle.device_plain.specs.device_rules.specs.{Pictures.Picture, Pictures.extents_at, Standing.IsHome, Standing.IsMade, Standing.Stands, Tags.region_of_offer}
use Rattle.host_driver.{specs.Driving.bare, proofs.Apart.AreApart, proofs.Pending.IsBeside, proofs.Removals.is_beside_of}

-- ---- apart

apart_from : (xs : List Extent) → Behind xs → AreApart xs
apart_from [] behind = tt
apart_from (x ∷ xs) (first, behind) = (each-change (λ y. overlaps y x ≡ false) (IsBeside x) (λ y apart. is_beside_of x y apart) xs first, apart_from xs behind)

-- ---- a list of all or of none is in order

pub all_same : (ys : List Extent) → AreSome SameAddresses (map bare ys) ys
all_same [] = none
all_same (y ∷ ys) = taken (record { start = refl; length = refl }) (all_same ys)

pub none_same : (ys : List Extent) → AreSome SameAddresses [] ys
none_same [] = none
none_same (y ∷ ys) = left (none_same ys)

module _ (c : Configuration) (sound : IsSound c) (p : Picture) (s : Stands c p) (h : HostId) (host : h < c.hosts) where
  pub extents_apart : AreApart (extents_at p h)
  extents_apart = apart_from (extents_at p h) (all_behind c sound p (loose c p s) h host (extents_at p h)
      (each-change (IsHome c p h) (λ x. IsMade c (p.block (region_at c h x.start)) h (region_at c h x.start) x) (λ x a. home_made c sound p s h x host a) (extents_at p h) (s.home h))
      (s.once h))

  -- an offer that is listed bare gets its marks again
  pub offer_marked : (offer : List Extent) (later : List (List Extent)) → p.offers h ≡ offer ∷ later → map (marked offer) (map bare offer) ≡ offer
  offer_marked offer later oldest =
      let w : Configuration = with_blocks c p.block in
      let r : ℕ = region_of_offer c h offer in
      marked_all w h r offer
      (owned w h r (all_same offer) (All-from_recursion (IsSoundIn w h r) offer (each_sound c sound p s h host offer later oldest))
      (all_apart c sound p s h host offer later oldest offer (made_there c sound p s h host offer later oldest) (once c sound p s h host offer later oldest)))
      (length-map offer bare)
