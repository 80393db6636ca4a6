-- The records of a step are those that its history asks for.
use Rattle.std.proofs.Common.{◌≡◌, ℕ, ◌+◌, ◌-◌, ◌%◌, ◌<◌, ◌≤◌, ◌⊎◌, append-nil, true, false, List, [], ◌∷◌, ◌++◌, length, map, flat_map, append_assoc, get_or, take, drop, zero, suc, inl, inr, refl, sym, ap, ◌∙◌, subst, arith}
use Rattle.std.proofs.{Math.Nat.mod-add-mod, lemmas.Bool.cases_eq, lemmas.Bool.ne_eqb, lemmas.Grind.flat_map-append, lemmas.List.drop_more, lemmas.List.length_push, lemmas.List.take_more}
use Rattle.std.specs.Prelude.{◌==◌, if◌then◌else◌}
use Rattle.cci_codec.specs.dcd_base.specs.declared.{capacity.Tag.Tag, ids.HostId.HostId, steps.LogId.LogId}
use Rattle.extent_list.specs.{HostLists.Lists, media_map.specs.region_config.specs.Configurations.Configuration}
use Rattle.tag_refs.specs.declared.entries.TagEntry.{TagEntry}
use Rattle.event_log.specs.{LogStates.LogState, LogStates.handle_after, Logs.Log, Logs.missed_by, Logs.next_handle, Logs.recorded, Logs.room_in, Logs.IsLogOf}
use Rattle.event_records.specs.declared.events.{Event.Event, EventKind.EventKind}
use Rattle.journal_core.specs.{Entries.effects, declared.entries.Entry.Entry, declared.outcome.Effect.Effect}
use Rattle.manager_commands.specs.device_state.specs.{StateAfter.IsStateAfter, Updates.IsOfLog, Updates.log_in, declared.state.State.State}
use Rattle.device_commands.specs.declared.log_records.LogRecords.{LogRecords}
use Rattle.device_commands.specs.device_rules.proofs.LogSteps.{IsSound, IsSound-recorded, room-recorded, same_log-self}
use Rattle.device_commands.specs.device_rules.specs.{Logs.log_after, Logs.log_of, Outcomes.entered, Outcomes.entered_all, Outcomes.no_extent}
use Rattle.control_core.specs.Recording.{ending_with, records_by, records_told}

-- the next handle goes on
handle-recorded : (log : Log) (e : Event) → next_handle (recorded log e) ≡ handle_after (next_handle log)
handle-recorded log e =
    let more : length (recorded log e).ever ≡ length log.ever + 1 = length_push log.ever (record e { handle = next_handle log }) in
    ap (λ n. 1 + n % 65535) more ∙ ap (λ n. 1 + n) (sym (mod-add-mod (length log.ever) 65535 1)) ∙ ap (λ n. 1 + n % 65535) (omega arith)

pub records_are : (l : LogId) (log : Log) → IsSound log → (events : List Event) → records_by l (next_handle log) (room_in l log) events ≡ entered_all l log events
records_are l log sound [] = refl
records_are l log sound (e ∷ events) = elim (cases_eq (room_in l log) 0) [
  | inl full ↦ (
      let test : (room_in l log == 0) ≡ true = rw full refl in
      let one : entered l log e ≡ Effect.Missed l = ap (λ b. if b then Effect.Missed l else Effect.Logged l (record e { handle = next_handle log })) test in
      let after : log_after l log (entered l log e) ≡ missed_by log = ap (log_after l log) one ∙ ap (λ b. if b then missed_by log else log) (same_log-self l) in
      ap (λ b. (if b then Effect.Missed l else Effect.Logged l (record e { handle = next_handle log })) ∷ records_by l (if b then next_handle log else handle_after (next_handle log)) (room_in l log - 1) events) test
      ∙ ap (λ n. Effect.Missed l ∷ records_by l (next_handle log) n events) (omega (arith, full))
      ∙ ap (λ es. Effect.Missed l ∷ es) (records_are l (missed_by log) sound events)
      ∙ sym ((λ i. one i ∷ entered_all l (log_after l log (entered l log e)) events) ∙ ap (λ log'. Effect.Missed l ∷ entered_all l log' events) after))
  | inr some ↦ (
      let test : (room_in l log == 0) ≡ false = ne_eqb (room_in l log) 0 some in
      let it : Effect = Effect.Logged l (record e { handle = next_handle log }) in
      let one : entered l log e ≡ Effect.Logged l (record e { handle = next_handle log }) = ap (λ b. if b then Effect.Missed l else Effect.Logged l (record e { handle = next_handle log })) test in
      let after : log_after l log (entered l log e) ≡ recorded log e = ap (log_after l log) one ∙ ap (λ b. if b then recorded log e else log) (same_log-self l) in
      ap (λ b. (if b then Effect.Missed l else Effect.Logged l (record e { handle = next_handle log })) ∷ records_by l (if b then next_handle log else handle_after (next_handle log)) (room_in l log - 1) events) test
      ∙ (λ i. Effect.Logged l (record e { handle = next_handle log }) ∷ records_by l (sym (handle-recorded log e) i) (sym (room-recorded l log e sound) i) events)
      ∙ ap (λ es. Effect.Logged l (record e { handle = next_handle log }) ∷ es) (records_are l (recorded log e) (IsSound-recorded log e sound) events)
      ∙ sym ((λ i. one i ∷ entered_all l (log_after l log (entered l log e)) events) ∙ ap (λ log'. Effect.Logged l (record e { handle = next_handle log }) ∷ entered_all l log' events) after))
]

-- the log that is kept is that of its history
pub kept_log : (c : Configuration) (journal : List Entry) (s : State) → IsStateAfter c journal s → (l : LogId) → IsOfLog (length s.hosts.items) l → IsLogOf l (log_of l (effects journal)) (log_in s l)
kept_log c journal s kept (LogId.Host h) known = (kept.parts h (subst (λ n. h < n) kept.host_count known)).log_is
kept_log c journal s kept LogId.Manager known = kept.manager_log

-- so its records are entered
pub entered_by : (l : LogId) (history : Log) (log : LogState) → IsLogOf l history log → (events : List Event) → records_by l log.next (log.capacity - length log.records) events ≡ entered_all l history events
entered_by l history log of events =
    ap (λ (s : LogState). records_by l s.next (s.capacity - length s.records) events) of.is ∙ records_are l history of.told.sound events

-- the same of records as outcomes have them
pub told_is : (past : List Effect) (events : LogRecords → List Event) (log_records : List LogRecords) →
    records_told past events log_records ≡ flat_map (λ (n : LogId × List Event). entered_all n.0 (log_of n.0 past) n.1) (map (λ (n : LogRecords). (n.log, events n)) log_records)
told_is past events [] = refl
told_is past events (n ∷ log_records) = ap (λ es. entered_all n.log (log_of n.log past) (events n) ++ es) (told_is past events log_records)

-- one record more
pub told_more : (past : List Effect) (events : LogRecords → List Event) (log_records : List LogRecords) (i : ℕ) (n : LogRecords) → i < length log_records → n ≡ get_or log_records i n →
    records_told past events (take (i + 1) log_records) ≡ records_told past events (take i log_records) ++ entered_all n.log (log_of n.log past) (events n)
told_more past events log_records i n below is =
    let f : LogRecords → List Effect = λ (m : LogRecords). entered_all m.log (log_of m.log past) (events m) in
    ap (records_told past events) (take_more log_records i n below)
    ∙ flat_map-append f (take i log_records) (get_or log_records i n ∷ [])
    ∙ ap (λ es. records_told past events (take i log_records) ++ es) (append-nil (f (get_or log_records i n)) ∙ ap f (sym is))

-- records of a full log are counted, whatever the next handle would be
missed_any : (l : LogId) (events : List Event) (next other : ℕ) → records_by l next 0 events ≡ records_by l other 0 events
missed_any l [] next other = refl
missed_any l (e ∷ events) next other = ap (λ es. Effect.Missed l ∷ es) (missed_any l events next other)

-- the records that a log has room for, and then those that are only counted
pub records_split : (l : LogId) (fit : ℕ) (events : List Event) (room next other : ℕ) → fit ≤ length events → fit ≤ room → (length events ≤ fit) ⊎ (room ≤ fit)
    → records_by l next room events ≡ records_by l next fit (take fit events) ++ records_by l other 0 (drop fit events)
records_split l zero [] room next other few within full = refl
records_split l zero (e ∷ events) room next other few within (inl all) = absurd (omega (arith, all))
records_split l zero (e ∷ events) room next other few within (inr full) =
    let none : room ≡ 0 = omega (arith, full) in
    ap (λ n. records_by l next n (e ∷ events)) none ∙ missed_any l (e ∷ events) next other
records_split l (suc fit) [] room next other few within full = absurd (omega (arith, few))
records_split l (suc fit) (e ∷ events) room next other few within full =
    let some : (room == 0) ≡ false = ne_eqb room 0 (λ is. omega (arith, is, within)) in
    let more : (suc fit == 0) ≡ false = ne_eqb (suc fit) 0 (λ is. omega (arith, is)) in
    let last : fit ≡ suc fit - 1 = omega arith in
    let rest : (length events ≤ fit) ⊎ (room - 1 ≤ fit) = elim full [
      | inl all ↦ inl (omega (arith, all))
      | inr out ↦ inr (omega (arith, out))
    ] in
    ap (λ b. (if b then Effect.Missed l else Effect.Logged l (record e { handle = next })) ∷ records_by l (if b then next else handle_after next) (room - 1) events) some
    ∙ ap (λ es. Effect.Logged l (record e { handle = next }) ∷ es)
    (records_split l fit events (room - 1) (handle_after next) other (omega (arith, few)) (omega (arith, within)) rest
    ∙ ap (λ n. records_by l (handle_after next) n (take fit events) ++ records_by l other 0 (drop fit events)) last)
    ∙ ap (λ b. ((if b then Effect.Missed l else Effect.Logged l (record e { handle = next })) ∷ records_by l (if b then next else handle_after next) (suc fit - 1) (take fit events)) ++ records_by l other 0 (drop fit events))
    (sym more)

-- what an index past the end reads
abbrev pub no_event : Event
no_event = record { handle = 0; kind = EventKind.Add; host = 0; region = 0; more = false; extent = no_extent; extents_available = 0; tags_available = 0 }

-- one record more that is only counted
pub missed_more : (l : LogId) (items : List Effect) (events : List Event) (k next : ℕ) (d : Event) → k < length events
    → (items ++ Effect.Missed l ∷ []) ++ records_by l next 0 (drop (k + 1) events) ≡ items ++ records_by l next 0 (drop k events)
missed_more l items events k next d known =
    append_assoc items (Effect.Missed l ∷ []) (records_by l next 0 (drop (k + 1) events))
    ∙ ap (λ es. items ++ records_by l next 0 es) (sym (drop_more events k d known))

-- where no tag may end and nothing is told the changes are all effects
pub none_recorded : (h : HostId) (l : Lists) (entries : List TagEntry) (past : List Effect) (events : LogRecords → List Event) (changes : List Effect) (tags : List Tag) (ns : List LogRecords) →
    length tags ≡ 0 → length ns ≡ 0 → changes ≡ (changes ++ map Effect.TagEnd (ending_with h l entries tags)) ++ records_told past events ns
none_recorded h l entries past events changes [] [] none_ends none_told = sym (append-nil (changes ++ []) ∙ append-nil changes)
none_recorded h l entries past events changes (t ∷ tags) ns none_ends none_told = absurd (omega (arith, none_ends))
none_recorded h l entries past events changes [] (n ∷ ns) none_ends none_told = absurd (omega (arith, none_told))
