-- What entering a step makes of the hosts' lists and of the table of the open tags.
use Rattle.std.specs.Prelude.{◌≡◌, ℕ, ◌+◌, ◌-◌, ◌<◌, ◌≤◌, not, All, IsTrue, List, [], ◌∷◌, ◌++◌, Option, Some, None, find, fold, if◌then◌else◌, length, map, option_to_list}
use Rattle.std.specs.List.{list_any}
use Rattle.cci_codec.specs.dcd_base.specs.declared.{capacity.Extent.Extent, capacity.Tag.Tag, ids.HostId.HostId, media.Run.Run}
use Rattle.extent_list.specs.{ExtentLists.count_in, ExtentLists.has_extent_of, ExtentLists.has_range, HostLists.Lists, HostLists.next_generation}
use Rattle.extent_list.specs.media_map.specs.Places.{IsRun, bytes_of_run, has_address, is_granular, run_of, start_of}
use Rattle.extent_list.specs.media_map.specs.region_config.specs.{Configurations.Configuration, Granules.region_spec, Granules.regions_of}
use Rattle.journal_core.specs.declared.outcome.{Effect.Effect, HeldKind.HeldKind}
use Rattle.offer_core.specs.Offerings.{oldest_of}
use Rattle.device_rules.specs.Hosts.{accepted_after, held_after, moves, offers_after}
use Rattle.tag_refs.specs.{Tables.entries_changed, Tables.entries_without, Tables.has_entry, Tables.opened, Tables.set_by, Tables.with_reference, declared.entries.TagEntry.TagEntry}
use Rattle.device_state.specs.{StateAfter.part_of, declared.state.State.State}

-- ---- lists

-- each host's lists
abbrev pub lists_of : State → HostId → Lists
lists_of s h = (part_of s h).lists

-- the lists of a host after one effect, but for the count of changes
abbrev pub lists_by : Configuration → HostId → Lists → Effect → Lists
lists_by c h l e = record {
  accepted = accepted_after c h l.accepted e;
  offers = offers_after h l.offers e;
  responses = held_after h HeldKind.Responses l.responses e;
  releases = held_after h HeldKind.Releases l.releases e;
  generation = l.generation;
}

-- the lists once it is counted that the effects of a step changed what the host has accepted
abbrev pub counted : HostId → List Effect → Lists → Lists
counted h new l = if list_any (moves h) new then record l { generation = next_generation l.generation } else l

-- each host's lists after one effect, and after more of them
abbrev pub all_lists_by : Configuration → (HostId → Lists) → Effect → HostId → Lists
all_lists_by c lists e h = lists_by c h (lists h) e

abbrev pub all_lists_over : Configuration → (HostId → Lists) → List Effect → HostId → Lists
all_lists_over c lists new h = fold (lists_by c h) (lists h) new

-- what a host holds of a kind, and its lists with other extents held
abbrev pub held_of : HeldKind → Lists → List Extent
held_of HeldKind.Responses l = l.responses
held_of HeldKind.Releases l = l.releases

abbrev pub with_held : HeldKind → List Extent → Lists → Lists
with_held HeldKind.Responses held l = record l { responses = held }
with_held HeldKind.Releases held l = record l { releases = held }

-- ---- tags

-- what the host has of these tags is told by these lists
abbrev pub told : HostId → Lists → List Tag → List TagEntry → List TagEntry
told h l tags entries =
    fold (λ (now : List TagEntry) t. entries_changed t (set_by h (has_extent_of t l.accepted) (list_any (has_extent_of t) l.offers)) now) entries tags

-- the tag of each extent
abbrev pub each_tag : List Extent → List Tag
each_tag xs = map (λ x. x.tag) xs

-- an offer in a shareable region: its tag is told, or opened
abbrev pub tag_offered : Configuration → HostId → Lists → Tag → List Extent → Option ℕ → List TagEntry → List TagEntry
tag_offered c h l t xs None entries = entries
tag_offered c h l t xs (Some r) entries =
    if not (region_spec c r).shareable then entries
    else if has_entry t entries then told h l (t ∷ []) entries
    else entries ++ opened t r (map (run_of c h) xs) h ∷ []

abbrev pub offered_tag : Configuration → HostId → Lists → List Extent → List TagEntry → List TagEntry
offered_tag c h l [] entries = entries
offered_tag c h l (x ∷ xs) entries = tag_offered c h l x.tag (x ∷ xs) (find (has_address c h x.start) (regions_of c)) entries

-- the tag of the first extent in which the run lies
abbrev pub tag_left : Configuration → HostId → Run → List Extent → List Tag
tag_left c h run accepted = each_tag (option_to_list (find (has_range (start_of c h run) (bytes_of_run c run)) accepted))

-- The table after one effect, by each host's lists before it.
abbrev pub table_by : Configuration → (HostId → Lists) → List TagEntry → Effect → List TagEntry
table_by c lists entries (Effect.Offer h xs) = offered_tag c h (lists_by c h (lists h) (Effect.Offer h xs)) xs entries
table_by c lists entries (Effect.Answer h xs) =
    told h (lists_by c h (lists h) (Effect.Answer h xs)) (each_tag (oldest_of (lists h).offers) ++ each_tag xs) entries
table_by c lists entries (Effect.Leave h run) = told h (lists_by c h (lists h) (Effect.Leave h run)) (tag_left c h run (lists h).accepted) entries
table_by c lists entries (Effect.Ref t on) = entries_changed t (with_reference on) entries
table_by c lists entries (Effect.TagEnd t) = entries_without t entries
table_by c lists entries e = entries

-- The table after the effects of a step.
abbrev pub tags_over : Configuration → (HostId → Lists) → List TagEntry → List Effect → List TagEntry
tags_over c lists entries [] = entries
tags_over c lists entries (e ∷ new) = tags_over c (all_lists_by c lists e) (table_by c lists entries e) new

-- ---- places

-- The extents are made of granules.
abbrev pub AreGranular : Configuration → HostId → List Extent → Type 0
AreGranular c h xs = All (λ (x : Extent). IsTrue (is_granular c h x.start x.length)) xs

-- The lists of its host, and the table with room for so many tags more, have places for what the effect adds.
abbrev pub HasPlaces : Configuration → (HostId → Lists) → ℕ → Effect → Type 0
HasPlaces c lists room (Effect.Offer h xs) =
    (0 < room) × (length (lists h).offers < 64) × (count_in (lists h).offers + length xs ≤ 64) × AreGranular c h xs
HasPlaces c lists room (Effect.Answer h xs) = length (lists h).accepted + length xs ≤ 128
HasPlaces c lists room (Effect.Leave h run) = (length (lists h).accepted < 128) × IsRun c run
HasPlaces c lists room (Effect.Hold h kind xs) = length (held_of kind (lists h)) + length xs ≤ 64
HasPlaces c lists room e = Unit {0}

-- the room that an effect leaves
abbrev pub room_by : ℕ → Effect → ℕ
room_by room (Effect.Offer h xs) = room - 1
room_by room e = room

-- So they have for each effect when its turn comes.
abbrev pub Fits : Configuration → (HostId → Lists) → ℕ → List Effect → Type 0
Fits c lists room [] = Unit {0}
Fits c lists room (e ∷ new) = HasPlaces c lists room e × Fits c (all_lists_by c lists e) (room_by room e) new

-- The lists of this host have places for what the effect adds, where it is of this host.
abbrev pub HasOwnPlaces : Configuration → HostId → Lists → Effect → Type 0
HasOwnPlaces c h l (Effect.Offer k xs) = k ≡ h → (length l.offers < 64) × (count_in l.offers + length xs ≤ 64)
HasOwnPlaces c h l (Effect.Answer k xs) = k ≡ h → length l.accepted + length xs ≤ 128
HasOwnPlaces c h l (Effect.Leave k run) = k ≡ h → (length l.accepted < 128) × IsRun c run
HasOwnPlaces c h l (Effect.Hold k kind xs) = k ≡ h → length (held_of kind l) + length xs ≤ 64
HasOwnPlaces c h l e = Unit {0}

-- So they have for each effect when its turn comes.
abbrev pub OwnFits : Configuration → HostId → Lists → List Effect → Type 0
OwnFits c h l [] = Unit {0}
OwnFits c h l (e ∷ new) = HasOwnPlaces c h l e × OwnFits c h (lists_by c h l e) new
