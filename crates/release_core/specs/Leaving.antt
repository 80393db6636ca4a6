-- The rules of the extents of a list that are to leave their host. The configuration is the one with the present blocks.
use Rattle.std.specs.Prelude.{◌≡◌, ℕ, ◌+◌, ◌^◌, ◌<◌, IsTrue, not, List, length, map, take, slice_index_or, Option}
use Rattle.std.specs.List.{list_all}
use Rattle.extent_list.specs.{ExtentLists.cut_all, ExtentLists.is_in, ExtentLists.marked, ExtentLists.overlaps, Listed.region_for}
use Rattle.extent_list.specs.{Listing.incomplete, Listing.misplaced, Listing.not_whole, Listing.overlapping, dcd_codes.specs.Rules.◌breaks◌, dcd_codes.specs.Rules.each_in}
use Rattle.extent_list.specs.dcd_codes.specs.{dcd_base.specs.Words.◌or◌, dcd_base.specs.declared.capacity.Extent.Extent, dcd_base.specs.declared.ids.HostId.HostId, declared.rules.Rule.Rule}
use Rattle.extent_list.specs.{declared.listed.Within.Within, media_map.specs.region_config.specs.Configurations.Configuration}

-- an extent that is to leave, beside those before it
abbrev pub leaving_rule : Configuration → HostId → List Extent → Within → List Extent → Extent → Option Rule
leaving_rule c h accepted bounds before x =
    misplaced c h (region_for c h bounds x) (length before) x
    or not (is_in accepted x) breaks Rule.NotAccepted (length before)
    or overlapping before x
    or not_whole c h accepted (length before) x

-- all of the list, extent by extent and then tag by tag
abbrev pub leaving_list_rule : Configuration → HostId → List Extent → Within → List Extent → Option Rule
leaving_list_rule c h accepted bounds list = each_in list (leaving_rule c h accepted bounds) or incomplete c h accepted list

-- how many extents the host has, accepted and offered, once those of the list have left
abbrev pub count_after : List Extent → ℕ → List Extent → ℕ
count_after accepted offered list = length (cut_all list accepted) + offered

-- The extents that leave are those of the list, each with the tag and the sequence of the accepted one in which it lies.
abbrev pub AreMarked : List Extent → List Extent → List Extent → Type 0
AreMarked accepted list leaving = leaving ≡ map (marked accepted) list

-- The extent can leave: it lies in an accepted one, ends at an address, and shares no address with those before it.
pub record CanLeave (accepted before : List Extent) (x : Extent) : Type 0 where
  pub some : 0 < x.length
  pub ends : x.start + x.length < 2 ^ 64
  pub inside : IsTrue (is_in accepted x)
  pub apart : IsTrue (list_all (λ y. not (overlaps x y)) before)

-- Each extent of the list can leave when its turn comes.
pub record AllCanLeave (accepted list : List Extent) : Type 0 where
  pub each : (i : ℕ) (d : Extent) → i < length list → CanLeave accepted (take i list) (slice_index_or list i d)
