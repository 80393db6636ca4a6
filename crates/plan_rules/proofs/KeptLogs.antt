-- What a command leaves of the hosts' logs.
use Rattle.std.proofs.Common.{◌≡◌, ◌≢◌, suc, ◌+◌, ◌≤◌, true, false, List, [], ◌∷◌, ◌++◌, length, map, refl, ap, ◌∙◌, arith, length-append, length-drop}
use Rattle.std.{specs.Prelude.fold, specs.List.list_all, proofs.lemmas.Bool.ne_eqb, proofs.lemmas.List.Sums.fold-append}
use Rattle.dcd_base.specs.declared.{capacity.Extent.Extent, ids.HostId.HostId, steps.LogId.LogId}
use Rattle.event_log.specs.Logs.{Log, empty_log, logged, recorded, records_in, room_in}
use Rattle.event_records.specs.declared.events.{Event.Event, EventKind.EventKind}
use Rattle.extent_list.specs.ExtentLists.{marked}
use Rattle.region_config.specs.Configurations.{Configuration}
use Rattle.journal_core.specs.declared.outcome.Effect.{Effect}
use Rattle.isolation_laws.specs.device_rules.proofs.Leaving.{after_front, both_pass, map_passes, over-leaving}
use Rattle.isolation_laws.specs.device_rules.proofs.LogHistories.{entered_all-other, leaves_logs, log-left, told, told_one}
use Rattle.isolation_laws.specs.device_rules.{proofs.LogSteps.IsSound, proofs.LogSteps.IsSound-recorded, proofs.LogSteps.entered_all-room, specs.Logs.log_after, specs.Logs.log_of, specs.Logs.same_log}
use Rattle.isolation_laws.specs.device_rules.specs.Outcomes.{Outcome, effects_of, ended, no_extent, record_for, records_of_extents}
use Rattle.isolation_laws.specs.device_rules.specs.{ResponseOutcomes.response_records, Views.View}

module _ (c : Configuration) (past : List Effect) (o : Outcome) (left : list_all leaves_logs o.changes ≡ true) where
  -- what the command tells alone changes a log
  pub log_told : (l : LogId) → log_of l (past ++ effects_of c past o) ≡ fold (log_after l) (log_of l past) (told past o.log_records)
  log_told l =
      let front : List Effect = o.changes ++ map Effect.TagEnd (ended c past o.changes o.tags) in
      let still : list_all leaves_logs front ≡ true = both_pass leaves_logs o.changes (map Effect.TagEnd (ended c past o.changes o.tags)) left (map_passes leaves_logs Effect.TagEnd (λ t. refl) (ended c past o.changes o.tags)) in
      fold-append (log_after l) empty_log past (effects_of c past o)
      ∙ after_front (log_after l) (log_of l past) front (told past o.log_records) (over-leaving (log_after l) leaves_logs (log-left l) (log_of l past) front still)

  -- where it is told to another log
  pub log_kept : (k : LogId) (events : List Event) → o.log_records ≡ (k, events) ∷ [] → (l : LogId) → same_log k l ≡ false → log_of l (past ++ effects_of c past o) ≡ log_of l past
  log_kept k events is l apart =
      log_told l ∙ ap (λ records. fold (log_after l) (log_of l past) (told past records)) is ∙ ap (fold (log_after l) (log_of l past)) (told_one past k events)
      ∙ entered_all-other k l (log_of l past) (log_of k past) events apart

  -- and where it is told to this one, which has room
  pub log_grows : (l : LogId) (events : List Event) → o.log_records ≡ (l, events) ∷ [] → IsSound (log_of l past) → length events ≤ room_in l (log_of l past) → log_of l (past ++ effects_of c past o) ≡ logged (log_of l past) events
  log_grows l events is sound room =
      log_told l ∙ ap (λ records. fold (log_after l) (log_of l past) (told past records)) is ∙ ap (fold (log_after l) (log_of l past)) (told_one past l events)
      ∙ entered_all-room l (log_of l past) events sound room

  -- a response tells the manager
  pub response_kept : (h k : HostId) (v : View) (offers : List (List Extent)) (taken : List Extent) → o.log_records ≡ response_records c h v offers taken → log_of (LogId.Host k) (past ++ effects_of c past o) ≡ log_of (LogId.Host k) past
  response_kept h k v [] taken is = log_told (LogId.Host k) ∙ ap (λ records. fold (log_after (LogId.Host k)) (log_of (LogId.Host k) past) (told past records)) is
  response_kept h k v (offer ∷ later) [] is = log_kept LogId.Manager (record_for h v EventKind.AddResponse false no_extent ∷ []) is (LogId.Host k) refl
  response_kept h k v (offer ∷ later) (x ∷ xs) is = log_kept LogId.Manager (records_of_extents h v EventKind.AddResponse (map (marked offer) (x ∷ xs))) is (LogId.Host k) refl

-- records more than there were
pub records_more : (log : Log) (events : List Event) → IsSound log → length (records_in (logged log events)) ≡ length (records_in log) + length events
records_more log [] sound = omega arith
records_more log (e ∷ events) sound = omega (arith, records_more (recorded log e) events (IsSound-recorded log e sound), one)
  where
    one : length (records_in (recorded log e)) ≡ suc (length (records_in log))
    one = simp (length-drop, length-append) (omega (arith, sound))

-- another host's log is another
pub other_log : (h k : HostId) → h ≢ k → same_log (LogId.Host h) (LogId.Host k) ≡ false
other_log h k apart = ne_eqb h k apart
