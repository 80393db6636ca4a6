-- The rules of an extent of a list that has an owner. The configuration is the one with the present blocks.
use Rattle.std.specs.Prelude.{ℕ, not, List, length, Option}
use Rattle.dcd_base.specs.{declared.capacity.Extent.Extent, declared.ids.HostId.HostId, Words.◌or◌}
use Rattle.dcd_codes.specs.{declared.rules.Rule.Rule, Rules.◌breaks◌}
use Rattle.extent_list.specs.{ExtentLists.is_in, Listing.misplaced, Listing.not_whole, Listing.overlapping, declared.listed.Owned.Owned, declared.listed.Within.Within}
use Rattle.media_map.specs.{Places.region_at, region_config.specs.Configurations.Configuration}

-- the region in which an extent has to lie: the one that the command names, or else the one that has its first address
abbrev pub region_for : Configuration → HostId → Within → Extent → ℕ
region_for c h Within.AnyRegion x = region_at c h x.start
region_for c h (Within.Region r) x = r

-- the extent of this index lies in no owner
abbrev pub missing_rule : Owned → ℕ → Rule
missing_rule Owned.Offered i = Rule.NotOffered i
missing_rule Owned.Accepted i = Rule.NotAccepted i

-- an extent beside its owner and those before it
abbrev pub listed_rule : Configuration → HostId → Within → List Extent → Owned → List Extent → Extent → Option Rule
listed_rule c h within owners owned before x =
    misplaced c h (region_for c h within x) (length before) x
    or not (is_in owners x) breaks missing_rule owned (length before)
    or overlapping before x
    or not_whole c h owners (length before) x
