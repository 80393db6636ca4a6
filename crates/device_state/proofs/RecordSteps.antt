-- A log that each effect of a step changes is the one that the effects so far tell.
use Rattle.std.proofs.Common.{◌≡◌, ℕ, Bool, true, false, List, [], ◌∷◌, ◌++◌, length, refl, sym, ap, ◌∙◌}
use Rattle.std.{specs.Prelude.fold, specs.Prelude.if◌then◌else◌, proofs.lemmas.Bool.lt-ltb, proofs.lemmas.List.drop-drop}
use Rattle.cci_codec.specs.dcd_base.specs.declared.steps.LogId.{LogId}
use Rattle.event_log.{proofs.Histories.follows, specs.LogStates.LogState, specs.LogStates.with_missed, specs.LogStates.with_record, specs.LogStates.without_oldest}
use Rattle.event_log.specs.Logs.{Log, cleared_of, missed_by, next_handle, places_in, records_in, reset, state_of}
use Rattle.event_records.specs.declared.events.Event.{Event}
use Rattle.journal_core.specs.declared.outcome.Effect.{Effect}
use Rattle.device_rules.specs.{Logs.log_after, Logs.same_log, Rooms.HasRoom, Rooms.HaveRoom, Rooms.IsNextRecord}
use Rattle.device_state.specs.Entered.{log_by, put_in}

-- a record that has room
put_room : (l : LogId) (log : Log) (event : Event) → IsNextRecord l log event →
    put_in (state_of (places_in l) log) event ≡ state_of (places_in l) (record log { ever = log.ever ++ event ∷ [] })
put_room l log event next =
    let state : LogState = state_of (places_in l) log in
    let same : record event { handle = next_handle log } ≡ event = λ i. record event { handle = sym next.handle i } in
    ap (λ (b : Bool). if b then with_record state event else state) (lt-ltb (length (records_in log)) (places_in l) next.room)
    ∙ sym ((follows (places_in l) log next.told).put event)
    ∙ ap (λ (x : Event). state_of (places_in l) (record log { ever = log.ever ++ x ∷ [] })) same

clears : (capacity : ℕ) (log : Log) (n : ℕ) → without_oldest n (state_of capacity log) ≡ state_of capacity (cleared_of n log)
clears capacity log n = sym (rw (drop-drop n log.cleared log.ever) refl)

-- one effect
log_one : (l : LogId) (log : Log) (e : Effect) → HasRoom l log e → log_by l (state_of (places_in l) log) e ≡ state_of (places_in l) (log_after l log e)
log_one l log (Effect.Logged k event) room = by (same_log k l) room
  where
    by : (own : Bool) → (own ≡ true → IsNextRecord l log event) → (if own then put_in (state_of (places_in l) log) event else state_of (places_in l) log) ≡ state_of (places_in l) (if own then record log { ever = log.ever ++ event ∷ [] } else log)
    by true next = put_room l log event (next refl)
    by false next = refl
log_one l log (Effect.Missed k) room = by (same_log k l)
  where
    by : (own : Bool) → (if own then with_missed (state_of (places_in l) log) else state_of (places_in l) log) ≡ state_of (places_in l) (if own then missed_by log else log)
    by true = refl
    by false = refl
log_one l log (Effect.Cleared k n) room = by (same_log k l)
  where
    by : (own : Bool) → (if own then without_oldest n (state_of (places_in l) log) else state_of (places_in l) log) ≡ state_of (places_in l) (if own then cleared_of n log else log)
    by true = clears (places_in l) log n
    by false = refl
log_one l log (Effect.Reset k) room = by (same_log k l)
  where
    by : (own : Bool) → (if own then record (state_of (places_in l) log) { missed = 0 } else state_of (places_in l) log) ≡ state_of (places_in l) (if own then reset log else log)
    by true = refl
    by false = refl
log_one l log e room = refl

-- the effects of a step
pub log_all : (l : LogId) (log : Log) (new : List Effect) → HaveRoom l log new → fold (log_by l) (state_of (places_in l) log) new ≡ state_of (places_in l) (fold (log_after l) log new)
log_all l log [] room = refl
log_all l log (e ∷ new) room = ap (λ (s : LogState). fold (log_by l) s new) (log_one l log e room.0) ∙ log_all l (log_after l log e) new room.1
