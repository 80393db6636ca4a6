-- An Initiate Dynamic Capacity Release: the rows of its two policies.
use Rattle.std.specs.Prelude.{ℕ, Bool, not, nat_le, List, filter, length, Option}
use Rattle.extent_list.specs.{ExtentLists.has_extent_of, Listing.too_many_extents, Listing.too_many_listed, dcd_codes.specs.Rules.◌breaks◌}
use Rattle.extent_list.specs.dcd_codes.specs.dcd_base.specs.{Words.◌or◌, Words.is_empty, Words.is_zero_tag, Words.same_tag, Words.where_true, declared.capacity.Extent.Extent}
use Rattle.extent_list.specs.dcd_codes.specs.{dcd_base.specs.declared.capacity.Tag.Tag, dcd_base.specs.declared.ids.HostId.HostId, declared.rules.Rule.Rule}
use Rattle.extent_list.specs.{declared.listed.Within.Within, media_map.specs.region_config.specs.Configurations.Configuration}
use Rattle.release_core.specs.Leaving.{count_after, leaving_list_rule}

-- by tag
abbrev pub by_tag_rule : List Extent → Tag → Option Rule
by_tag_rule accepted tag =
    is_zero_tag tag breaks Rule.ZeroTag
    or not (has_extent_of tag accepted) breaks Rule.NoSuchTag

-- the extents that have the tag
abbrev pub extents_of_tag : Tag → List Extent → List Extent
extents_of_tag tag xs = filter (λ x. same_tag x.tag tag) xs

-- prescriptive; so many extents are offered
abbrev pub prescribed_removal_rule : Configuration → HostId → List Extent → ℕ → ℕ → List Extent → Bool → Option Rule
prescribed_removal_rule c h accepted offered r list forced =
    nat_le (length c.regions) r breaks Rule.NoSuchRegion r
    or is_empty list breaks Rule.EmptyList
    or too_many_listed list
    or leaving_list_rule c h accepted (Within.Region r) list
    or where_true forced (too_many_extents (count_after accepted offered list))
