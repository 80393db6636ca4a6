-- After every legal journal a host's log has 64 records at most.
use Rattle.std.proofs.Common.{◌≡◌, ◌≤◌, Bool, true, false, List, [], ◌∷◌, ◌++◌, length, refl, sym, subst, arith, length-append, length-drop}
use Rattle.std.{specs.Prelude.fold, specs.Prelude.if◌then◌else◌, proofs.lemmas.List.Sums.fold-append}
use Rattle.dcd_base.specs.declared.{ids.HostId.HostId, steps.LogId.LogId}
use Rattle.event_log.specs.Logs.{Log, cleared_of, empty_log, missed_by, places_in, records_in, reset}
use Rattle.event_records.specs.declared.events.Event.{Event}
use Rattle.journal_core.{proofs.JournalSteps.effects-push, specs.Entries.effects, specs.declared.entries.Entry.Entry, specs.declared.outcome.Effect.Effect}
use Rattle.extent_list.specs.media_map.specs.region_config.specs.Configurations.{Configuration}
use Rattle.device_rules.{proofs.LegalSteps.by_steps, proofs.Rooms.room_for, specs.Legal.Legal, specs.Logs.log_after, specs.Logs.log_of, specs.Logs.same_log}
use Rattle.device_rules.specs.Rooms.{HasRoom, HaveRoom, IsNextRecord}

-- it has no more records than places
abbrev pub IsWithin : LogId → Log → Type 0
IsWithin l log = length (records_in log) ≤ places_in l

module _ (l : LogId) where
  -- one record more, where there is room
  one_more : (log : Log) (event : Event) (own : Bool) → (own ≡ true → IsNextRecord l log event) → IsWithin l log → IsWithin l (if own then record log { ever = log.ever ++ event ∷ [] } else log)
  one_more log event true room within =
      let next : IsNextRecord l log event = room refl in
      omega (arith, next.room, next.told.sound, length-drop log.cleared log.ever, length-drop log.cleared (log.ever ++ event ∷ []), length-append log.ever (event ∷ []))
  one_more log event false room within = within

  some_less : (log : Log) (n : _) (own : Bool) → IsWithin l log → IsWithin l (if own then cleared_of n log else log)
  some_less log n true within = omega (arith, within, length-drop log.cleared log.ever, length-drop (cleared_of n log).cleared log.ever)
  some_less log n false within = within

  as_many_missed : (log : Log) (own : Bool) → IsWithin l log → IsWithin l (if own then missed_by log else log)
  as_many_missed log true within = within
  as_many_missed log false within = within

  as_many_reset : (log : Log) (own : Bool) → IsWithin l log → IsWithin l (if own then reset log else log)
  as_many_reset log true within = within
  as_many_reset log false within = within

  stays_within : (log : Log) (e : Effect) → HasRoom l log e → IsWithin l log → IsWithin l (log_after l log e)
  stays_within log (Effect.Logged k event) room within = one_more log event (same_log k l) room within
  stays_within log (Effect.Cleared k n) room within = some_less log n (same_log k l) within
  stays_within log (Effect.Missed k) room within = as_many_missed log (same_log k l) within
  stays_within log (Effect.Reset k) room within = as_many_reset log (same_log k l) within
  stays_within log e room within = within

  all_within : (log : Log) (new : List Effect) → HaveRoom l log new → IsWithin l log → IsWithin l (fold (log_after l) log new)
  all_within log [] room within = within
  all_within log (e ∷ new) room within = all_within (log_after l log e) new room.1 (stays_within log e room.0 within)

-- After every legal journal.
pub few_records : (c : Configuration) (journal : List Entry) → Legal c journal → (h : HostId) → length (records_in (log_of (LogId.Host h) (effects journal))) ≤ 64
few_records c = by_steps c (λ journal. (h : HostId) → IsWithin (LogId.Host h) (log_of (LogId.Host h) (effects journal))) (λ h. omega arith)
    (λ before e legal within meets h.
    let l : LogId = LogId.Host h in
    subst (λ past. IsWithin l (log_of l past)) (sym (effects-push before e))
    (subst (IsWithin l) (sym (fold-append (log_after l) empty_log (effects before) e.effects))
    (all_within l (log_of l (effects before)) e.effects (room_for c before e legal meets l) (within h))))
