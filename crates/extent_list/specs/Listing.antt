-- The rules that every list of extents in a message has to keep. The configuration is the one with the present blocks.
use Rattle.std.specs.Prelude.{ℕ, ◌+◌, ◌-◌, ◌%◌, Bool, ◌&&◌, not, ◌==◌, nat_le, nat_lt, List, length, map, filter, position, Option, option_map}
use Rattle.dcd_base.specs.{declared.capacity.Extent.Extent, declared.capacity.Tag.Tag, declared.ids.HostId.HostId, Limits.extents_listed, Limits.extents_supported, Words.◌or◌}
use Rattle.dcd_codes.specs.{declared.rules.Rule.Rule, Rules.◌breaks◌, Rules.each_in}
use Rattle.extent_list.specs.ExtentLists.{count_of_tag, is_whole, marked, overlaps, tags_of}
use Rattle.media_map.specs.{Places.region_at, region_config.specs.Configurations.Configuration, region_config.specs.Granules.base_of, region_config.specs.Granules.region_spec}

-- whether the extent lies within that region
abbrev pub lies_in_region : Configuration → HostId → ℕ → Extent → Bool
lies_in_region c h r x =
    nat_lt r (length c.regions) && nat_le (base_of c h r) x.start && nat_le (x.start + x.length) (base_of c h r + (region_spec c r).length)

-- whether blocks begin and end where the extent does
abbrev pub is_aligned : Configuration → HostId → ℕ → Extent → Bool
is_aligned c h r x = ((x.start - base_of c h r) % (region_spec c r).block == 0) && (x.length % (region_spec c r).block == 0)

-- an extent of no length, outside the region, or not made of its blocks
abbrev pub misplaced : Configuration → HostId → ℕ → ℕ → Extent → Option Rule
misplaced c h r i x =
    (x.length == 0) breaks Rule.ZeroLength i
    or not (lies_in_region c h r x) breaks Rule.OutsideRegion i
    or not (is_aligned c h r x) breaks Rule.Unaligned i

-- the first earlier extent with which it shares an address
abbrev pub overlapping : List Extent → Extent → Option Rule
overlapping before x = option_map (λ j. Rule.Overlap (length before) j) (position (overlaps x) before)

abbrev pub is_shareable_at : Configuration → HostId → Extent → Bool
is_shareable_at c h x = (region_spec c (region_at c h x.start)).shareable

-- a part where only the whole will do
abbrev pub not_whole : Configuration → HostId → List Extent → ℕ → Extent → Option Rule
not_whole c h owners i x = (is_shareable_at c h x && not (is_whole owners x)) breaks Rule.NotWhole i

-- the listed extents of shareable regions, each with the tag and the sequence of the one in which it lies
abbrev pub shared_of : Configuration → HostId → List Extent → List Extent → List Extent
shared_of c h owners list = filter (is_shareable_at c h) (map (marked owners) list)

-- a tag of which fewer extents are listed than there are
abbrev pub too_few_of : List Extent → List Extent → Tag → Option Rule
too_few_of owners shared t =
    nat_lt (count_of_tag t shared) (count_of_tag t owners) breaks Rule.TagIncomplete (count_of_tag t shared) (count_of_tag t owners)

abbrev pub some_left : List Extent → List Extent → Option Rule
some_left owners shared = each_in (tags_of shared) (λ before t. too_few_of owners shared t)

-- a tag of a shareable region of which only a part is listed
abbrev pub incomplete : Configuration → HostId → List Extent → List Extent → Option Rule
incomplete c h owners list = some_left owners (shared_of c h owners list)

-- more extents than a list may have, and more than the host may have
abbrev pub too_many_listed : List Extent → Option Rule
too_many_listed list = nat_lt extents_listed (length list) breaks Rule.TooManyListed (length list)

abbrev pub too_many_extents : ℕ → Option Rule
too_many_extents n = nat_lt extents_supported n breaks Rule.TooManyExtents n
