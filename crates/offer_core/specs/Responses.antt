-- The rules of a host's response to its oldest offer, in order (opcode 4802h).
use Rattle.std.specs.Prelude.{ℕ, ◌+◌, Bool, not, List, ◌++◌, drop, length, Option}
use Rattle.extent_list.specs.{ExtentLists.count_in, ExtentLists.is_in, Listing.incomplete, Listing.misplaced, Listing.not_whole, Listing.overlapping, Listing.too_many_extents, Listing.too_many_listed}
use Rattle.extent_list.specs.dcd_codes.specs.{Rules.◌breaks◌, Rules.each_in, dcd_base.specs.Words.◌or◌, dcd_base.specs.Words.where_true, dcd_base.specs.declared.capacity.Extent.Extent}
use Rattle.extent_list.specs.{dcd_codes.specs.dcd_base.specs.declared.ids.HostId.HostId, dcd_codes.specs.declared.rules.Rule.Rule, media_map.specs.Places.region_at}
use Rattle.extent_list.specs.media_map.specs.region_config.specs.Configurations.{Configuration}
use Rattle.offer_core.specs.Offerings.{oldest_of}

-- an extent of the response, beside those before it
abbrev pub extent_rule : Configuration → HostId → List Extent → List Extent → Extent → Option Rule
extent_rule c h offer before x =
    misplaced c h (region_at c h x.start) (length before) x
    or not (is_in offer x) breaks Rule.NotOffered (length before)
    or overlapping before x
    or not_whole c h offer (length before) x

-- the whole list; the host has accepted so many extents
abbrev pub response_list_rule : Configuration → HostId → ℕ → List (List Extent) → List Extent → Option Rule
response_list_rule c h accepted offers list =
    each_in list (extent_rule c h (oldest_of offers))
    or incomplete c h (oldest_of offers) list
    or too_many_extents (accepted + length list + count_in (drop 1 offers))

-- the row: the whole list is the held one and then the message's, and is tried where no message is to follow
abbrev pub respond_rule : Configuration → HostId → ℕ → List (List Extent) → List Extent → Bool → List Extent → Option Rule
respond_rule c h accepted offers held more list =
    too_many_listed (held ++ list) or where_true (not more) (response_list_rule c h accepted offers (held ++ list))
