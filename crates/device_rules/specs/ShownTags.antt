-- What the table shows of the tags.
use Rattle.std.specs.Prelude.{◌≡◌, ℕ, Bool, true, not, ◌==◌, ◌&&◌, ◌||◌, List, length, map}
use Rattle.std.specs.List.{list_any}
use Rattle.cci_codec.specs.dcd_base.specs.{Words.has_tag, Words.is_zero_tag, declared.capacity.Tag.Tag}
use Rattle.extent_list.specs.{ExtentLists.has_extent_of, media_map.specs.region_config.specs.Configurations.Configuration, media_map.specs.region_config.specs.Granules.hosts_of}
use Rattle.journal_core.specs.declared.outcome.Effect.{Effect}
use Rattle.tag_refs.specs.{Tables.is_used, Tables.passes, Tables.has_entry, Tables.entry_referenced, Tables.tag_view as entry_view, declared.entries.TagEntry.TagEntry}
use Rattle.device_rules.specs.{Adding.is_open_in, Hosts.accepted_of, Hosts.offers_of, TagCommands.tag_seen, Tags.is_live, Tags.is_referenced, Tags.open_tags, Tabled.Tabled, Tabled.past_of}

-- The entries are what the manager is to see of the open tags, in order (5608h). A tag has an entry just where it is
-- open, and it is open in the region that its entry names.
pub record ShowsTags (c : Configuration) (past : List Effect) (entries : List TagEntry) : Type 0 where
  pub seen : map (tag_seen c past) (open_tags c past) ≡ map entry_view entries
  pub count : length (open_tags c past) ≡ length entries
  pub live : (t : Tag) → has_tag (open_tags c past) t ≡ has_entry t entries
  pub open_in : (r : ℕ) (t : Tag) → is_open_in c past r t ≡ passes t (λ e. e.region == r) entries

-- A tag that is open lives just where its entry is used.
abbrev pub LivesWhereUsed : Tabled → Tag → Type 0
LivesWhereUsed t tag = has_tag (open_tags t.config (past_of t)) tag ≡ true → is_live t.config tag (past_of t) ≡ passes tag is_used t.entries

-- whether the tag is in use: a host has an extent of it, accepted or offered, or its entry has the reference
abbrev pub is_in_use : Tabled → Tag → Bool
is_in_use t tag = not (is_zero_tag tag)
    && (list_any (λ h. has_extent_of tag (accepted_of t.config h (past_of t)) || list_any (has_extent_of tag) (offers_of h (past_of t))) (hosts_of t.config)
    || passes tag entry_referenced t.entries)

-- A tag to which the manager has a reference is open.
abbrev pub ReferencedAreOpen : Configuration → List Effect → Type 0
ReferencedAreOpen c past = (t : Tag) → is_referenced t past ≡ true → has_tag (open_tags c past) t ≡ true
