-- What the device keeps of the open tags, and how it follows the effects.
use Rattle.std.specs.{Prelude.◌≡◌, Prelude.Bool, Prelude.not, Prelude.List, Prelude.map, Prelude.filter, Prelude.fold, Prelude.Some, List.AllByRecursion, List.list_any}
use Rattle.cci_codec.specs.dcd_base.specs.declared.{capacity.Extent.Extent, capacity.Tag.Tag, ids.HostId.HostId}
use Rattle.extent_list.specs.{media_map.specs.region_config.specs.Configurations.Configuration, ExtentLists.has_extent_of}
use Rattle.journal_core.specs.declared.outcome.Effect.{Effect}
use Rattle.tag_refs.specs.{declared.entries.TagEntry.TagEntry, Tables.entries_changed, Tables.is_used, Tables.passes, Tables.set_by, Tables.still_used}
use Rattle.device_rules.specs.{TagCommands.host_bits, Tags.is_accepted_by, Tags.is_offered_to, Tags.is_referenced, Tags.last_offer, Tags.open_tags, Tags.tag_region, Tags.tag_runs}

-- The entry is what the effects so far say of its tag.
pub record IsEntry (c : Configuration) (past : List Effect) (e : TagEntry) : Type 0 where
  pub region_is : Some e.region ≡ tag_region c (last_offer e.tag past)
  pub runs_are : e.runs ≡ tag_runs c (last_offer e.tag past)
  pub holders_are : e.holders ≡ host_bits c (is_accepted_by c e.tag past)
  pub offered_are : e.offered ≡ host_bits c (is_offered_to e.tag past)
  pub referenced_is : e.referenced ≡ is_referenced e.tag past

-- The entries are those of the open tags, in the order of opening.
pub record IsTable (c : Configuration) (past : List Effect) (entries : List TagEntry) : Type 0 where
  pub tags_are : map (λ (e : TagEntry). e.tag) entries ≡ open_tags c past
  pub each : AllByRecursion (IsEntry c past) entries

-- ---- what a step makes of the entries

-- what a host has of these tags is set anew, tag by tag: whether it holds them and whether it is offered them
abbrev pub host_of_tags_set : HostId → (Tag → Bool) → (Tag → Bool) → List Tag → List TagEntry → List TagEntry
host_of_tags_set h held offered tags entries =
    fold (λ (now : List TagEntry) t. still_used (entries_changed t (set_by h (held t) (offered t)) now)) entries tags

-- which of the tags end by that
abbrev pub ending : HostId → (Tag → Bool) → (Tag → Bool) → List TagEntry → List Tag → List Tag
ending h held offered entries tags = filter (λ t. passes t (λ e. not (is_used (set_by h (held t) (offered t) e))) entries) tags

-- whether lists of a host have an extent of the tag
abbrev pub among_offers : List (List Extent) → Tag → Bool
among_offers offers t = list_any (has_extent_of t) offers

abbrev pub among : List Extent → Tag → Bool
among accepted t = has_extent_of t accepted
