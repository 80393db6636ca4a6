-- Tags, and the status of a granule.
use Rattle.std.specs.Prelude.{ℕ, Bool, true, false, ◌&&◌, ◌||◌, not, List, [], ◌∷◌, ◌++◌, map, filter, fold, Option, Some, None, if◌then◌else◌}
use Rattle.std.specs.List.{list_any, range_with_len}
use Rattle.cci_codec.specs.dcd_base.specs.{Words.same_tag, Words.has_tag, Words.is_zero_tag, Words.has_in_runs, declared.capacity.Extent.Extent, declared.capacity.Tag.Tag, declared.ids.HostId.HostId}
use Rattle.cci_codec.specs.dcd_base.specs.declared.media.Run.{Run}
use Rattle.extent_list.specs.{ExtentLists.has_extent_of, media_map.specs.Places.region_at, media_map.specs.Places.run_of, media_map.specs.region_config.specs.Configurations.Configuration}
use Rattle.extent_list.specs.media_map.specs.region_config.specs.Granules.{region_spec, granule_total, region_of, hosts_of}
use Rattle.journal_core.specs.{declared.outcome.Effect.Effect, Holders.holds, Holders.is_taken, Holders.is_soiled}
use Rattle.device_rules.specs.Hosts.{offers_of, accepted_of}

-- the last offer with the tag, and its host
abbrev pub last_offer_after : Tag → Option (HostId × List Extent) → Effect → Option (HostId × List Extent)
last_offer_after t last (Effect.Offer h xs) = if has_extent_of t xs then Some (h, xs) else last
last_offer_after t last e = last

abbrev pub last_offer : Tag → List Effect → Option (HostId × List Extent)
last_offer t past = fold (last_offer_after t) None past

-- the region that an offer lies in
abbrev pub region_of_offer : Configuration → HostId → List Extent → ℕ
region_of_offer c h [] = 0
region_of_offer c h (x ∷ xs) = region_at c h x.start

abbrev pub tag_region : Configuration → Option (HostId × List Extent) → Option ℕ
tag_region c None = None
tag_region c (Some o) = Some (region_of_offer c o.0 o.1)

-- the granules that the tag stands for: those of the last offer with it
abbrev pub tag_runs : Configuration → Option (HostId × List Extent) → List Run
tag_runs c None = []
tag_runs c (Some o) = map (run_of c o.0) o.1

-- whether the manager has a reference to the tag
abbrev pub reference_after : Tag → Bool → Effect → Bool
reference_after t on (Effect.Ref u new) = if same_tag u t then new else on
reference_after t on e = on

abbrev pub is_referenced : Tag → List Effect → Bool
is_referenced t past = fold (reference_after t) false past

-- whether the host has accepted the tag, and whether it is offered it
abbrev pub is_accepted_by : Configuration → Tag → List Effect → HostId → Bool
is_accepted_by c t past h = has_extent_of t (accepted_of c h past)

abbrev pub is_offered_to : Tag → List Effect → HostId → Bool
is_offered_to t past h = list_any (has_extent_of t) (offers_of h past)

-- A tag other than zero is live while a host has accepted it or is offered it, or the manager has a reference.
abbrev pub is_live : Configuration → Tag → List Effect → Bool
is_live c t past = not (is_zero_tag t)
    && (list_any (λ h. is_accepted_by c t past h || is_offered_to t past h) (hosts_of c) || is_referenced t past)

abbrev pub is_in_shareable : Configuration → Option ℕ → Bool
is_in_shareable c None = false
is_in_shareable c (Some r) = (region_spec c r).shareable

abbrev pub is_live_shareable : Configuration → Tag → List Effect → Bool
is_live_shareable c t past = is_live c t past && is_in_shareable c (tag_region c (last_offer t past))

-- An offer in a shareable region opens its tag where it is not open, and an end takes it out.
abbrev pub tags_after : Configuration → List Tag → Effect → List Tag
tags_after c live (Effect.Offer h []) = live
tags_after c live (Effect.Offer h (x ∷ xs)) =
    if (region_spec c (region_at c h x.start)).shareable && not (has_tag live x.tag) then live ++ x.tag ∷ [] else live
tags_after c live (Effect.TagEnd t) = filter (λ u. not (same_tag u t)) live
tags_after c live e = live

-- the live shareable tags, in the order of opening
abbrev pub open_tags : Configuration → List Effect → List Tag
open_tags c past = fold (tags_after c) [] past

-- what a granule is
pub data Status : Type 0 where
  Held : Status
  Offered : Status
  Tagged : Status
  Dirty : Status
  Free : Status

-- whether a host holds the granule, whether it stands in an unanswered offer, whether an open tag has it
abbrev pub is_held : Configuration → ℕ → List Effect → Bool
is_held c g past = list_any (λ h. holds h g past) (hosts_of c)

abbrev pub is_offered : Configuration → ℕ → List Effect → Bool
is_offered c g past = list_any (λ h. list_any (λ xs. has_in_runs (map (run_of c h) xs) g) (offers_of h past)) (hosts_of c)

abbrev pub is_tagged : Configuration → ℕ → List Effect → Bool
is_tagged c g past = list_any (λ t. has_in_runs (tag_runs c (last_offer t past)) g) (open_tags c past)

-- the first of these that it is
abbrev pub status : Configuration → ℕ → List Effect → Status
status c g past = let spec = region_spec c (region_of c g) in
    if not spec.shareable && is_held c g past then Held
    else if not spec.shareable && is_offered c g past then Offered
    else if is_tagged c g past then Tagged
    else if (spec.sanitize && is_taken g past) || is_soiled g past then Dirty
    else Free

abbrev pub is_free : Status → Bool
is_free Free = true
is_free s = false

abbrev pub is_dirty : Status → Bool
is_dirty Dirty = true
is_dirty s = false

-- the granules of the device, and those that are dirty
abbrev pub all_granules : Configuration → List ℕ
all_granules c = range_with_len 0 (granule_total c)

abbrev pub free_granules : Configuration → List Effect → List ℕ
free_granules c past = filter (λ g. is_free (status c g past)) (all_granules c)

abbrev pub dirty_granules : Configuration → List Effect → List ℕ
dirty_granules c past = filter (λ g. is_dirty (status c g past)) (all_granules c)
