-- Records of one kind for the host alone: they join its log, and they bring it their extents.
use Rattle.std.proofs.Common.{◌≡◌, ◌≤◌, List, [], ◌∷◌, length, true, ap, ◌∙◌, arith}
use Rattle.std.specs.{Prelude.fold, Prelude.if◌then◌else◌, Prelude.◌==◌, List.list_all}
use Rattle.dcd_base.specs.declared.{capacity.Extent.Extent, ids.HostId.HostId, steps.LogId.LogId}
use Rattle.event_log.specs.Logs.{logged, room_in}
use Rattle.event_records.specs.{Records.kind_number, declared.events.EventKind.EventKind}
use Rattle.journal_core.specs.declared.outcome.Effect.{Effect}
use Rattle.extent_list.specs.media_map.specs.region_config.specs.Configurations.{Configuration}
use Rattle.device_rules.proofs.{LogHistories.leaves_logs, LogHistories.told as records_for, LogHistories.told_one, LogOutcomes.length-log_records, LogSteps.IsSound, LogSteps.entered_all-room}
use Rattle.device_rules.specs.{Logs.log_after, Logs.log_of, Outcomes.Outcome, Outcomes.effects_of, Outcomes.entered_all, Outcomes.records_of_extents, Views.View, Views.view_after}
use Rattle.isolation_laws.{specs.Solo.extents_recorded, specs.Solo.with_log_records, proofs.JoinedViews.view_after-told, proofs.RecordItems.told_outcome, proofs.RecordItems.told_records}

module _ (c : Configuration) (h : HostId) (v : View) (past : List Effect) (log : log_of (LogId.Host h) past ≡ v.log) (sound : IsSound v.log)
    (w : View) (kind : EventKind) (xs : List Extent) (room : length xs ≤ room_in (LogId.Host h) v.log) where
  -- all records of these extents
  entries : records_for past ((LogId.Host h, records_of_extents h w kind xs) ∷ []) ≡ entered_all (LogId.Host h) v.log (records_of_extents h w kind xs)
  entries = told_one past (LogId.Host h) (records_of_extents h w kind xs) ∙ ap (λ own. entered_all (LogId.Host h) own (records_of_extents h w kind xs)) log

  joins_log : fold (log_after (LogId.Host h)) v.log (records_for past ((LogId.Host h, records_of_extents h w kind xs) ∷ [])) ≡ logged v.log (records_of_extents h w kind xs)
  joins_log =
      ap (fold (log_after (LogId.Host h)) v.log) entries
      ∙ entered_all-room (LogId.Host h) v.log (records_of_extents h w kind xs) sound (omega (arith, length-log_records h w kind xs, room))

  -- a command that tells them, and no others
  module _ (o : Outcome) (log_records : o.log_records ≡ (LogId.Host h, records_of_extents h w kind xs) ∷ []) (left : list_all leaves_logs o.changes ≡ true) where
    pub view_after-log_records : view_after c h v (effects_of c past o) ≡ with_log_records (view_after c h v o.changes) (records_of_extents h w kind xs)
    view_after-log_records =
        view_after-told c h v past o (records_of_extents h w kind xs) left
        (ap (λ ns. fold (log_after (LogId.Host h)) v.log (records_for past ns)) log_records ∙ joins_log)

    pub told_log_records : (asked : EventKind) → extents_recorded h asked (effects_of c past o) ≡ (if kind_number kind == kind_number asked then xs else [])
    told_log_records asked =
        told_outcome h asked c past o left
        ∙ ap (extents_recorded h asked) (ap (records_for past) log_records ∙ entries)
        ∙ told_records h asked kind w v.log xs sound room
