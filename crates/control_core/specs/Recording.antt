-- The records of a step, by the logs that are kept.
use Rattle.std.specs.Prelude.{ℕ, ◌-◌, ◌==◌, List, [], ◌∷◌, flat_map, fold, if◌then◌else◌, ◌≡◌, ◌++◌, Bool, map, not}
use Rattle.cci_codec.specs.dcd_base.specs.declared.{steps.LogId.LogId, capacity.Tag.Tag, ids.HostId.HostId}
use Rattle.event_log.specs.LogStates.{handle_after}
use Rattle.event_records.specs.declared.events.Event.{Event}
use Rattle.device_commands.specs.{Drafts.HasExtentsOf, Drafts.told_by, declared.draft.Draft.Draft, declared.log_records.LogRecords.LogRecords, device_rules.specs.Logs.log_of}
use Rattle.device_commands.specs.device_rules.specs.{Outcomes.entered_all, TagTable.ending, Views.View, Views.view_after, Views.view_of}
use Rattle.journal_core.specs.{declared.outcome.Effect.Effect, Entries.effects, declared.entries.Entry.Entry}
use Rattle.std.specs.List.{list_any}
use Rattle.extent_list.specs.{ExtentLists.has_extent_of, HostLists.Lists, media_map.specs.region_config.specs.Configurations.Configuration}
use Rattle.tag_refs.specs.{Tables.is_used, Tables.passes, Tables.set_by, declared.entries.TagEntry.TagEntry}
use Rattle.manager_commands.specs.device_state.specs.{StateAfter.IsStateAfter, EnteredLists.lists_by, EnteredLists.lists_of, declared.state.State.State}

-- one record, by the next handle and the room of its log, and the next handle after it
abbrev pub record_by : LogId → ℕ → ℕ → Event → Effect
record_by l next room event = if room == 0 then Effect.Missed l else Effect.Logged l (record event { handle = next })

abbrev pub next_by : ℕ → ℕ → ℕ
next_by next room = if room == 0 then next else handle_after next

-- and so all records for a log
abbrev pub records_by : LogId → ℕ → ℕ → List Event → List Effect
records_by l next room [] = []
records_by l next room (event ∷ events) = record_by l next room event ∷ records_by l (next_by next room) (room - 1) events

-- what is told to all logs, with these events for each
abbrev pub records_told : List Effect → (LogRecords → List Event) → List LogRecords → List Effect
records_told past events log_records = flat_map (λ (n : LogRecords). entered_all n.log (log_of n.log past) (events n)) log_records

-- the events of a host that has this view, and those of each host by its view
abbrev pub events_by : View → LogRecords → List Event
events_by w n = told_by n.host w n.told

abbrev pub events_of : (HostId → View) → LogRecords → List Event
events_of view_for n = told_by n.host (view_for n.host) n.told

-- the lists of a host once these effects have changed them, but for the count of changes
abbrev pub after_changes : Configuration → State → HostId → List Effect → Lists
after_changes c s h changes = fold (lists_by c h) (lists_of s h) changes

-- whether a tag ends once a host has these lists, and those of some tags that do
abbrev pub ends_by_lists : HostId → Lists → List TagEntry → Tag → Bool
ends_by_lists h l entries t = passes t (λ e. not (is_used (set_by h (has_extent_of t l.accepted) (list_any (has_extent_of t) l.offers) e))) entries

abbrev pub ending_with : HostId → Lists → List TagEntry → List Tag → List Tag
ending_with h l entries tags = ending h (λ t. has_extent_of t l.accepted) (λ t. list_any (has_extent_of t) l.offers) entries tags

-- ---- by each journal that leads to what is kept

-- What is told to one log, or to all, of a host that has these lists comes behind the effects.
abbrev pub IsToldBehind : State → Lists → LogRecords → List Effect → List Effect → Type 0
IsToldBehind s l n old new = (c : Configuration) (journal : List Entry) (w : View) → IsStateAfter c journal s → HasExtentsOf w l →
    new ≡ old ++ entered_all n.log (log_of n.log (effects journal)) (events_by w n)

abbrev pub AreToldBehind : State → Lists → List LogRecords → List Effect → List Effect → Type 0
AreToldBehind s l ns old new = (c : Configuration) (journal : List Entry) (w : View) → IsStateAfter c journal s → HasExtentsOf w l →
    new ≡ old ++ records_told (effects journal) (events_by w) ns

-- So does what is told of hosts by what is kept of them.
abbrev pub IsTold : State → LogRecords → List Effect → List Effect → Type 0
IsTold s n old new = (c : Configuration) (journal : List Entry) → IsStateAfter c journal s →
    new ≡ old ++ entered_all n.log (log_of n.log (effects journal)) (events_of (λ h. view_of c h journal) n)

abbrev pub AreTold : State → List LogRecords → List Effect → List Effect → Type 0
AreTold s ns old new = (c : Configuration) (journal : List Entry) → IsStateAfter c journal s →
    new ≡ old ++ records_told (effects journal) (events_of (λ h. view_of c h journal)) ns

-- The effects are the changes of the draft, the ends of those of its tags that end by the lists of the host after them, and the
-- records, which tell what the host has then.
abbrev pub AreRecorded : Configuration → State → HostId → Draft → List Effect → Type 0
AreRecorded c s h d all = (journal : List Entry) → IsStateAfter c journal s →
    all ≡ (d.changes ++ map Effect.TagEnd (ending_with h (after_changes c s h d.changes) s.tags.entries d.tags))
    ++ records_told (effects journal) (events_by (view_after c h (view_of c h journal) d.changes)) d.log_records
