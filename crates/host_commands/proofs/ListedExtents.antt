-- What the rows of responses and releases say of the extents that they list.
use Rattle.std.proofs.Common.{◌≡◌, ℕ, zero, suc, ◌+◌, ◌<◌, true, false, not, List, [], ◌∷◌, ◌++◌, length, map, None, arith}
use Rattle.std.specs.{Prelude.All, List.AllByRecursion}
use Rattle.cci_codec.specs.dcd_base.specs.declared.{capacity.Extent.Extent, ids.HostId.HostId}
use Rattle.extent_list.specs.{ExtentLists.is_in, ExtentLists.marked, Listing.incomplete, Listing.misplaced, Listing.not_whole, Listing.overlapping, Listing.too_many_extents, Listing.too_many_listed}
use Rattle.extent_list.specs.dcd_codes.specs.{Rules.◌breaks◌, Rules.each_in, declared.rules.Rule.Rule}
use Rattle.extent_list.specs.media_map.specs.{Places.is_granular, Places.region_at, region_config.specs.Configurations.Configuration, region_config.specs.Soundness.IsSound}
use Rattle.offer_core.specs.{Offerings.oldest_of, Responses.extent_rule, Responses.respond_rule}
use Rattle.release_core.{specs.Leaving.count_after, specs.Releases.give_back_rule, proofs.Members.neither}
use Rattle.selection.proofs.Placed.{is_made_of_granules, placed}
use Rattle.device_commands.specs.device_rules.proofs.{LeftStanding.going_rule, Overlaps.row_each}

-- the extent is made of granules of one region
abbrev pub Granular : Configuration → HostId → Extent → Type 0
Granular p h x = is_granular p h x.start x.length ≡ true

-- so it is of each extent that is marked
pub marked_granular : (p : Configuration) (h : HostId) (owners xs : List Extent) → AllByRecursion (Granular p h) xs → All (Granular p h) (map (marked owners) xs)
marked_granular p h owners [] each k d less = absurd (omega (arith, less))
marked_granular p h owners (x ∷ xs) each zero d less = each.0
marked_granular p h owners (x ∷ xs) each (suc k) d less = marked_granular p h owners xs each.1 k d (omega (arith, less))

module _ (p : Configuration) (h : HostId) (sound : IsSound p) (host : h < p.hosts) where
  placed_granular : (i : ℕ) (x : Extent) → misplaced p h (region_at p h x.start) i x ≡ None → Granular p h x
  placed_granular i x none = is_made_of_granules p h sound host (region_at p h x.start) x (placed p h (region_at p h x.start) i x none)

  -- an extent of a response
  answered_granular : (offer before : List Extent) (x : Extent) → extent_rule p h offer before x ≡ None → Granular p h x
  answered_granular offer before x row =
      let p3 = neither _ (not_whole p h offer (length before) x) row in
      let p2 = neither _ (overlapping before x) p3.0 in
      let p1 = neither (misplaced p h (region_at p h x.start) (length before) x) (not (is_in offer x) breaks Rule.NotOffered (length before)) p2.0 in
      placed_granular (length before) x p1.0

  -- an extent of a release
  leaving_granular : (accepted before : List Extent) (x : Extent) → going_rule p h accepted (λ y. region_at p h y.start) before x ≡ None → Granular p h x
  leaving_granular accepted before x row =
      let p3 = neither _ (not_whole p h accepted (length before) x) row in
      let p2 = neither _ (overlapping before x) p3.0 in
      let p1 = neither (misplaced p h (region_at p h x.start) (length before) x) (not (is_in accepted x) breaks Rule.NotAccepted (length before)) p2.0 in
      placed_granular (length before) x p1.0

  -- those of a response that breaks no rule
  pub response_granular : (count : ℕ) (offers : List (List Extent)) (held list : List Extent) → respond_rule p h count offers held false list ≡ None → AllByRecursion (Granular p h) (held ++ list)
  response_granular count offers held list row =
      let all : List Extent = held ++ list in
      let offer : List Extent = oldest_of offers in
      let p3 = neither (too_many_listed all) _ row in
      let p2 = neither _ (too_many_extents _) p3.1 in
      let p1 = neither (each_in all (extent_rule p h offer)) (incomplete p h offer all) p2.0 in
      row_each (extent_rule p h offer) (Granular p h) (answered_granular offer) [] all p1.0

  -- those of a release that breaks no rule
  pub release_granular : (accepted : List Extent) (offered : ℕ) (whole : List Extent) → give_back_rule p h accepted offered whole false ≡ None → AllByRecursion (Granular p h) whole
  release_granular accepted offered whole row =
      let p3 = neither (too_many_listed whole) _ row in
      let p2 = neither _ (too_many_extents (count_after accepted offered whole)) p3.1 in
      let p1 = neither (each_in whole (going_rule p h accepted (λ y. region_at p h y.start))) (incomplete p h accepted whole) p2.0 in
      row_each (going_rule p h accepted (λ y. region_at p h y.start)) (Granular p h) (leaving_granular accepted) [] whole p1.0
