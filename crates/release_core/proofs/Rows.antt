-- Rows of which the first rules are not broken.
use Rattle.std.proofs.Common.{◌≡◌, ◌≤◌, ℕ, Bool, false, List, length, Some, None, refl}
use Rattle.std.{specs.Prelude.nat_le, proofs.lemmas.Bool.le-ltb}
use Rattle.extent_list.specs.{Listing.incomplete, Listing.too_many_extents, Listing.too_many_listed, dcd_codes.specs.Rules.each_in, dcd_codes.specs.dcd_base.specs.Words.is_empty}
use Rattle.extent_list.specs.dcd_codes.specs.{dcd_base.specs.declared.capacity.Extent.Extent, dcd_base.specs.declared.ids.HostId.HostId, declared.rules.Rule.Rule}
use Rattle.extent_list.specs.{declared.listed.Within.Within, media_map.specs.region_config.specs.Configurations.Configuration}
use Rattle.release_core.specs.{Leaving.count_after, Leaving.leaving_rule, Releases.give_back_rule, Removals.prescribed_removal_rule}

-- a list that is not too long
pub few_listed : (list : List Extent) → length list ≤ 64 → too_many_listed list ≡ None
few_listed list few = rw (le-ltb 64 (length list) few) refl

module _ (c : Configuration) (h : HostId) (accepted : List Extent) (offered : ℕ) (list : List Extent) (few : too_many_listed list ≡ None) where
  -- the first rule of a release is that of an extent
  pub release_broken : (more : Bool) → more ≡ false → (rule : Rule) → each_in list (leaving_rule c h accepted Within.AnyRegion) ≡ Some rule → give_back_rule c h accepted offered list more ≡ Some rule
  release_broken more last rule broken = rw (last, few, broken) refl

  -- it is that of the number of extents
  pub release_counted : (more : Bool) → more ≡ false → each_in list (leaving_rule c h accepted Within.AnyRegion) ≡ None → incomplete c h accepted list ≡ None
      → give_back_rule c h accepted offered list more ≡ too_many_extents (count_after accepted offered list)
  release_counted more last each whole = rw (last, few, each, whole) refl

  -- the first rule of a removal is that of an extent
  pub removal_broken : (r : ℕ) (forced : Bool) → nat_le (length c.regions) r ≡ false → is_empty list ≡ false → (rule : Rule) → each_in list (leaving_rule c h accepted (Within.Region r)) ≡ Some rule
      → prescribed_removal_rule c h accepted offered r list forced ≡ Some rule
  removal_broken r forced known some rule broken = rw (known, some, few, broken) refl
