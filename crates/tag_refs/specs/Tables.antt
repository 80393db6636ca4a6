-- The table of live tags, and what each call makes of it.
use Rattle.std.specs.Prelude.{ℕ, ◌==◌, Bool, true, false, if◌then◌else◌, not, ◌||◌, Option, Some, None, is_some, List, map, filter}
use Rattle.std.specs.List.{find, IsDistinct}
use Rattle.dcd_base.specs.{Words.same_tag, declared.capacity.Tag.Tag, declared.media.Run.Run, Hosts.has_host, Hosts.with_host, Hosts.without_host, declared.tags.TagView.TagView}
use Rattle.tag_refs.specs.declared.entries.TagEntry.{TagEntry}

-- the entries in the order of opening, and for how many tags more there is memory
pub record TagTable : Type 0 where
  pub entries : List TagEntry
  pub spare : ℕ

-- whether there is an entry, and it passes the test
abbrev pub some_passes : (TagEntry → Bool) → Option TagEntry → Bool
some_passes test None = false
some_passes test (Some e) = test e

-- whether the entry is that of the tag
abbrev pub is_entry_of : Tag → TagEntry → Bool
is_entry_of t e = same_tag t e.tag

-- whether a host holds the tag, is offered it, or the Fabric Manager has a reference to it
abbrev pub is_used : TagEntry → Bool
is_used e = not (e.holders == 0) || not (e.offered == 0) || e.referenced

-- what holds of every table: no two entries have one tag
abbrev pub AreTags : List TagEntry → Type 0
AreTags entries = IsDistinct same_tag (map (λ e. e.tag) entries)

-- the entry of the tag
abbrev pub entry_with : Tag → List TagEntry → Option TagEntry
entry_with t entries = find (is_entry_of t) entries

abbrev pub has_entry : Tag → List TagEntry → Bool
has_entry t entries = is_some (entry_with t entries)

-- whether the tag is live, and its entry passes the test
abbrev pub passes : Tag → (TagEntry → Bool) → List TagEntry → Bool
passes t test entries = some_passes test (entry_with t entries)

abbrev pub is_held_by : ℕ → TagEntry → Bool
is_held_by h e = has_host e.holders h

abbrev pub entry_offers : ℕ → TagEntry → Bool
entry_offers h e = has_host e.offered h

abbrev pub entry_referenced : TagEntry → Bool
entry_referenced e = e.referenced

abbrev pub entry_soiled : TagEntry → Bool
entry_soiled e = e.soiled

-- ---- changes of an entry

-- a new entry, offered to the host
abbrev pub opened : Tag → ℕ → List Run → ℕ → TagEntry
opened t region runs h = record {
  tag = t;
  region = region;
  runs = runs;
  holders = 0;
  offered = with_host 0 h;
  referenced = false;
  soiled = false;
}

abbrev pub entry_with_offer : ℕ → TagEntry → TagEntry
entry_with_offer h e = record e { offered = with_host e.offered h }

-- the host answered its offer
abbrev pub settled_by : ℕ → Bool → TagEntry → TagEntry
settled_by h accepted e = record e {
  offered = without_host e.offered h;
  holders = if accepted then with_host e.holders h else e.holders;
}

abbrev pub left_by : ℕ → TagEntry → TagEntry
left_by h e = record e { holders = without_host e.holders h }

-- the host holds the tag or not, and is offered it or not
abbrev pub set_by : ℕ → Bool → Bool → TagEntry → TagEntry
set_by h held offered e = record e {
  holders = if held then with_host e.holders h else without_host e.holders h;
  offered = if offered then with_host e.offered h else without_host e.offered h;
}

abbrev pub with_reference : Bool → TagEntry → TagEntry
with_reference on e = record e { referenced = on }

abbrev pub with_soil : TagEntry → TagEntry
with_soil e = record e { soiled = true }

-- ---- changes of the table

-- the entries with this change of the tag's
abbrev pub entries_changed : Tag → (TagEntry → TagEntry) → List TagEntry → List TagEntry
entries_changed t change entries = map (λ e. if is_entry_of t e then change e else e) entries

-- the entries that are used, in order; the others have ended
abbrev pub still_used : List TagEntry → List TagEntry
still_used entries = filter is_used entries

-- the entries without that of the tag
abbrev pub entries_without : Tag → List TagEntry → List TagEntry
entries_without t entries = filter (λ e. not (is_entry_of t e)) entries

-- the entries without that of the tag, where it is used no more
abbrev pub entries_ended : Tag → List TagEntry → List TagEntry
entries_ended t entries = if passes t is_used entries then entries else entries_without t entries

-- what the Fabric Manager is shown of an entry
abbrev pub tag_view : TagEntry → TagView
tag_view e = record { tag = e.tag; holders = e.holders; offered = e.offered; referenced = e.referenced }
