-- The effects of a step give and take granules of one host, or zero granules.
use Rattle.std.proofs.{Common.◌≡◌, Common.true, Common.List, Common.Option, Common.Some, Common.None, Common.refl, lemmas.Bool.eq-eqb}
use Rattle.std.specs.List.{list_all}
use Rattle.cci_codec.specs.dcd_base.specs.declared.{ids.HostId.HostId, steps.LogId.LogId}
use Rattle.fm_payloads.specs.declared.requests.FmRequest.{FmRequest}
use Rattle.journal_core.specs.{Entries.effects, declared.entries.Entry.Entry, declared.outcome.Effect.Effect}
use Rattle.extent_list.specs.media_map.specs.region_config.specs.Configurations.{Configuration}
use Rattle.device_commands.specs.device_rules.{proofs.LegalSteps.step_case, specs.Answers.manager_outcome, specs.Answers.scrubbed, specs.Legal.Meets, specs.Logs.log_of}
use Rattle.device_commands.specs.device_rules.specs.{Outcomes.Outcome, Outcomes.effects_of, ReleaseOutcomes.is_cleaning, ReleaseOutcomes.is_forced, ReleaseOutcomes.removed, Tags.is_referenced}
use Rattle.device_commands.specs.device_rules.specs.Views.{View, view_of}
use Rattle.device_commands.specs.device_rules.proofs.EffectKinds.{PassClearing, PassHeld, PassRecords, any_log, clear_passes, host_passes, outcome_passes, reference_passes, removals_pass, tells_any, unhold_passes, zeroes_pass}
use Rattle.control_core.specs.PutChanges.{AreOfOneHost, is_of_host}

-- what is of no host is of any
held : (host : Option HostId) (h : HostId) → PassHeld (is_of_host host) h
held None h = record { hold = λ kind xs. refl; unhold = λ kind. refl }
held (Some m) h = record { hold = λ kind xs. refl; unhold = λ kind. refl }

records : (host : Option HostId) (l : LogId) → PassRecords (is_of_host host) l
records None l = record { logged = λ event. refl; missed = refl }
records (Some m) l = record { logged = λ event. refl; missed = refl }

clearing : (l : LogId) → PassClearing (is_of_host None) l
clearing l = record { cleared = λ n. refl; reset = refl }

-- a command of the manager that gives and takes nothing
quiet : (c : Configuration) (past : List Effect) (o : Outcome) → list_all (is_of_host None) o.changes ≡ true → AreOfOneHost (effects_of c past o)
quiet c past o changes = record { host = None; each = outcome_passes (is_of_host None) any_log (λ l any. records None l) (λ t. refl) c past o changes (tells_any o.log_records) }

of_manager : (c : Configuration) (past : List Effect) (view_for : HostId → View) (q : FmRequest) → AreOfOneHost (effects_of c past (manager_outcome c past view_for q))
of_manager c past view_for (FmRequest.GetEvents log) = quiet c past (manager_outcome c past view_for (FmRequest.GetEvents log)) refl
of_manager c past view_for (FmRequest.ClearEvents log all handles) =
    quiet c past (manager_outcome c past view_for (FmRequest.ClearEvents log all handles)) (clear_passes (is_of_host None) LogId.Manager (clearing LogId.Manager) log (log_of LogId.Manager past) all handles)
of_manager c past view_for FmRequest.GetInfo = quiet c past (manager_outcome c past view_for FmRequest.GetInfo) refl
of_manager c past view_for (FmRequest.GetRegions host count first) = quiet c past (manager_outcome c past view_for (FmRequest.GetRegions host count first)) refl
of_manager c past view_for (FmRequest.SetRegion r sanitize size) = quiet c past (manager_outcome c past view_for (FmRequest.SetRegion r sanitize size)) refl
of_manager c past view_for (FmRequest.GetExtentLists host count first) = quiet c past (manager_outcome c past view_for (FmRequest.GetExtentLists host count first)) refl
of_manager c past view_for (FmRequest.Add host policy r bytes tag list) = quiet c past (manager_outcome c past view_for (FmRequest.Add host policy r bytes tag list)) refl
of_manager c past view_for (FmRequest.Remove h flags r bytes tag list) = record {
  host = Some h;
  each = outcome_passes (is_of_host (Some h)) any_log (λ l any. records (Some h) l) (λ t. refl) c past (manager_outcome c past view_for (FmRequest.Remove h flags r bytes tag list))
      (removals_pass (is_of_host (Some h)) h (λ run. eq-eqb h h refl) (λ run. refl) c (is_forced flags) (is_cleaning flags) (removed (view_for h).accepted flags tag list))
      (tells_any (manager_outcome c past view_for (FmRequest.Remove h flags r bytes tag list)).log_records);
}
of_manager c past view_for (FmRequest.AddReference tag) =
    quiet c past (manager_outcome c past view_for (FmRequest.AddReference tag)) (reference_passes (is_of_host None) tag refl (is_referenced tag past))
of_manager c past view_for (FmRequest.RemoveReference tag) = quiet c past (manager_outcome c past view_for (FmRequest.RemoveReference tag)) refl
of_manager c past view_for (FmRequest.ListTags first count) = quiet c past (manager_outcome c past view_for (FmRequest.ListTags first count)) refl

pub of_one_host : (c : Configuration) (before : List Entry) (e : Entry) → Meets c before e → AreOfOneHost e.effects
of_one_host c before e meets = step_case c before AreOfOneHost (record {
  nothing = record { host = None; each = refl };
  refused = λ h kind xs. record { host = None; each = unhold_passes (is_of_host None) h (held None h) kind xs };
  host = λ h q known fine. record {
    host = Some h;
    each = host_passes (is_of_host (Some h)) h (λ t. refl) (records (Some h) LogId.Manager) (record { cleared = λ n. refl; reset = refl }) (held (Some h) h)
        (record { answer = λ xs. refl; take = λ run. eq-eqb h h refl; leave = λ run. eq-eqb h h refl }) c (effects before) (view_of c h before) q;
  };
  manager = λ q fine. of_manager c (effects before) (λ h. view_of c h before) q;
  scrub = λ n. record { host = None; each = zeroes_pass (is_of_host None) (λ run. refl) c (scrubbed c (effects before) n) };
}) e meets
