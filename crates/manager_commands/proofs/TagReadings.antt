-- What the table of the open tags says of them.
use Rattle.std.proofs.Common.{◌≡◌, ℕ, ◌&&◌, ◌||◌, not, ◌==◌, List, map, length}
use Rattle.std.specs.List.{list_any}
use Rattle.event_records.specs.dcd_base.specs.{Words.has_tag, Words.is_zero_tag, declared.capacity.Tag.Tag}
use Rattle.extent_list.specs.{ExtentLists.has_extent_of, media_map.specs.region_config.specs.Configurations.Configuration, media_map.specs.region_config.specs.Granules.hosts_of}
use Rattle.extent_list.specs.media_map.specs.region_config.specs.Soundness.{IsSound}
use Rattle.journal_core.specs.{Entries.effects, declared.entries.Entry.Entry}
use Rattle.tag_refs.specs.{Tables.has_entry, Tables.passes, Tables.tag_view, Tables.entry_referenced as is_entry_referenced, declared.entries.TagEntry.TagEntry}
use Rattle.device_state.specs.device_rules.proofs.{AddSteps.table_in_use, AddSteps.table_open_in, Listing.table_length, Listing.table_seen, ReferenceSteps.table_referenced}
use Rattle.device_state.specs.device_rules.{proofs.ReferencedTags.referenced_open, proofs.TagEntries.table_live, specs.Adding.is_open_in, specs.Hosts.accepted_of, specs.Hosts.offers_of}
use Rattle.device_state.specs.device_rules.specs.{Legal.Legal, TagCommands.tag_seen, TagTable.IsTable, Tags.is_referenced, Tags.open_tags, Tags.is_live as is_tag_live}

-- there are as many open tags as entries
pub tags_length : (c : Configuration) (before : List Entry) (entries : List TagEntry) → IsSound c → Legal c before → IsTable c (effects before) entries →
    length (open_tags c (effects before)) ≡ length entries
tags_length c before entries sound legal table = table_length c (effects before) entries table

-- a tag is open just where it has an entry
pub tags_open : (c : Configuration) (before : List Entry) (entries : List TagEntry) → IsSound c → Legal c before → IsTable c (effects before) entries →
    (t : Tag) → has_tag (open_tags c (effects before)) t ≡ has_entry t entries
tags_open c before entries sound legal table t = table_live c (effects before) entries table t

-- each entry shows what is seen of its tag
pub tags_seen : (c : Configuration) (before : List Entry) (entries : List TagEntry) → IsSound c → Legal c before → IsTable c (effects before) entries →
    map (tag_seen c (effects before)) (open_tags c (effects before)) ≡ map tag_view entries
tags_seen c before entries sound legal table = table_seen c (effects before) entries table

-- the manager has a reference just where the entry says so
pub tags_referenced : (c : Configuration) (before : List Entry) (entries : List TagEntry) → IsSound c → Legal c before → IsTable c (effects before) entries →
    (t : Tag) → is_referenced t (effects before) ≡ passes t is_entry_referenced entries
tags_referenced c before entries sound legal table t = table_referenced c (effects before) entries table t (referenced_open c sound before legal t)

-- a tag is live just where a host has it or is offered it, or its entry says that the manager has a reference
pub tags_live : (c : Configuration) (before : List Entry) (entries : List TagEntry) → IsSound c → Legal c before → IsTable c (effects before) entries →
    (t : Tag) → is_tag_live c t (effects before)
    ≡ (not (is_zero_tag t) && (list_any (λ h. has_extent_of t (accepted_of c h (effects before)) || list_any (has_extent_of t) (offers_of h (effects before))) (hosts_of c) || passes t is_entry_referenced entries))
tags_live c before entries sound legal table t = table_in_use c (effects before) entries table t (referenced_open c sound before legal t)

-- a tag is open in the region that its entry names
pub tags_open_in : (c : Configuration) (before : List Entry) (entries : List TagEntry) → IsSound c → Legal c before → IsTable c (effects before) entries →
    (r : ℕ) (t : Tag) → is_open_in c (effects before) r t ≡ passes t (λ (e : TagEntry). e.region == r) entries
tags_open_in c before entries sound legal table r t = table_open_in c (effects before) entries table t r
