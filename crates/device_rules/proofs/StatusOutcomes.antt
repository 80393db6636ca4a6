-- Records, and the end of a held list, change no status.
use Rattle.std.{proofs.Common.◌≡◌, proofs.Common.true, proofs.Common.List, proofs.Common.refl, specs.Prelude.flat_map, specs.List.list_all}
use Rattle.cci_codec.specs.dcd_base.specs.declared.{capacity.Extent.Extent, ids.HostId.HostId, steps.LogId.LogId}
use Rattle.event_records.specs.declared.events.Event.{Event}
use Rattle.journal_core.specs.declared.outcome.{Effect.Effect, HeldKind.HeldKind}
use Rattle.device_rules.proofs.{EffectKinds.PassHeld, EffectKinds.PassRecords, EffectKinds.any_log, EffectKinds.tells_any, EffectKinds.told_passes, EffectKinds.unhold_passes, Leaving.is_quiet}
use Rattle.device_rules.specs.{Logs.log_of, Outcomes.entered_all, ResponseOutcomes.unhold}

-- ---- records change no status

quiet_records : (l : LogId) → any_log l ≡ true → PassRecords is_quiet l
quiet_records l any = record { logged = λ event. refl; missed = refl }

pub told-quiet : (past : List Effect) (log_records : List (LogId × List Event)) → list_all is_quiet (flat_map (λ n. entered_all n.0 (log_of n.0 past) n.1) log_records) ≡ true
told-quiet past log_records = told_passes is_quiet any_log quiet_records past log_records (tells_any log_records)

-- ---- nor does the end of a held list

quiet_held : (h : HostId) → PassHeld is_quiet h
quiet_held h = record { hold = λ kind xs. refl; unhold = λ kind. refl }

pub unhold-quiet : (h : HostId) (kind : HeldKind) (xs : List Extent) → list_all is_quiet (unhold h kind xs) ≡ true
unhold-quiet h kind xs = unhold_passes is_quiet h (quiet_held h) kind xs
