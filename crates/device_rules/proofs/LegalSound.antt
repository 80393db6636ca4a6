-- Every entry of a legal journal keeps the invariant, so that every legal journal has it.
use Rattle.std.proofs.Common.{◌≡◌, ℕ, ◌<◌, Bool, true, false, not, ◌==◌, List, [], ◌∷◌, ◌++◌, length, Option, Some, None, Result, Ok, Err, refl, ap, sym, subst, ◌∙◌, append_assoc, append-nil}
use Rattle.std.{specs.Prelude.IsTrue, specs.Prelude.if◌then◌else◌, specs.List.list_all, proofs.lemmas.Bool.ltb-true}
use Rattle.cci_codec.specs.dcd_base.specs.declared.{faults.PayloadFault.PayloadFault as HostFault, faults.PayloadFault.PayloadFault as ManagerFault, ids.HostId.HostId, steps.Actor.Actor}
use Rattle.cci_codec.specs.dcd_base.specs.declared.steps.LogId.{LogId}
use Rattle.extent_list.specs.{dcd_codes.specs.declared.rules.Rule.Rule, media_map.specs.region_config.specs.Configurations.Configuration, media_map.specs.region_config.specs.Soundness.IsSound}
use Rattle.host_payloads.specs.{declared.requests.HostRequest.HostRequest, HostPayloads.host_request}
use Rattle.fm_payloads.specs.{declared.requests.FmRequest.FmRequest, ManagerPayloads.manager_request}
use Rattle.event_log.specs.Logs.{Log, records_in}
use Rattle.journal_core.{proofs.JournalSteps.effects-push, specs.Entries.EachFrom, specs.Entries.effects, specs.Entries.fits, specs.declared.acts.Act.Act, specs.declared.entries.Entry.Entry}
use Rattle.journal_core.specs.declared.outcome.{Effect.Effect, HeldKind.HeldKind}
use Rattle.device_rules.specs.Answers.{dropped, effects_with, host_outcome, host_result, host_rule, manager_outcome, manager_result, manager_rule, scrubbed, unless, zeroes}
use Rattle.device_rules.proofs.{Adding.add_keeps, Blocking.set_keeps, GivingBack.give_back_keeps, GivingBack.remove_keeps, Holding.first_is_sound}
use Rattle.device_rules.proofs.{Quiet.is_quiet, Quiet.quiet_keeps, Quiet.quiet_outcome_keeps, Quiet.unhold_quiet, Quiet.zeroes_quiet, Referring.add_reference_keeps, Referring.remove_reference_keeps}
use Rattle.device_rules.{proofs.Responding.respond_keeps, specs.EventCommands.cleared, specs.Legal.Legal, specs.Legal.Meets, specs.Legal.right_answer, specs.Logs.log_of, specs.Outcomes.effects_of}
use Rattle.device_rules.specs.{Pictures.picture_of, ResponseOutcomes.unhold, Standing.Sound, Views.View, Views.view_of}

-- ---- quiet commands

cleared_quiet : (l : LogId) (n : ℕ) (b : Bool) → list_all is_quiet (if b then [] else Effect.Cleared l n ∷ []) ≡ true
cleared_quiet l n true = refl
cleared_quiet l n false = refl

reset_quiet : (l : LogId) (n : ℕ) (b : Bool) → list_all is_quiet ((if b then [] else Effect.Cleared l n ∷ []) ++ Effect.Reset l ∷ []) ≡ true
reset_quiet l n true = refl
reset_quiet l n false = refl

-- clearing a log
pub clear_quiet : (l : LogId) (own : Log) (handles : List ℕ) (other all : Bool) →
    list_all is_quiet (if other then [] else if all then cleared l (length (records_in own)) ++ Effect.Reset l ∷ [] else cleared l (length handles)) ≡ true
clear_quiet l own handles true all = refl
clear_quiet l own handles false true = reset_quiet l (length (records_in own)) (length (records_in own) == 0)
clear_quiet l own handles false false = cleared_quiet l (length handles) (length handles == 0)

-- a refusal
pub dropped_quiet : (h : HostId) (v : View) (responds gives : Bool) →
    list_all is_quiet (if responds then unhold h HeldKind.Responses v.responses else if gives then unhold h HeldKind.Releases v.releases else []) ≡ true
dropped_quiet h v true gives = unhold_quiet h HeldKind.Responses v.responses
dropped_quiet h v false true = unhold_quiet h HeldKind.Releases v.releases
dropped_quiet h v false false = refl

module _ (c : Configuration) (sound : IsSound c) (journal : List Entry) (before : Sound c (picture_of c (effects journal))) where
  abbrev past : List Effect
  past = effects journal

  nothing : Sound c (picture_of c (effects journal ++ []))
  nothing = quiet_keeps c past [] refl before

  -- ---- a host's command

  module _ (h : HostId) (host : h < c.hosts) where
    abbrev v : View
    v = view_of c h journal

    refused : (opcode : ℕ) → Sound c (picture_of c (effects journal ++ dropped h (view_of c h journal) opcode))
    refused opcode = quiet_keeps c past (dropped h v opcode) (dropped_quiet h v (opcode == 0x4802) (opcode == 0x4803)) before

    answered_host : (request : HostRequest) → host_rule c h (view_of c h journal) request ≡ None → Sound c (picture_of c (effects journal ++ effects_of c (effects journal) (host_outcome c h (view_of c h journal) request)))
    answered_host (HostRequest.GetEvents log) row = quiet_outcome_keeps c past (host_outcome c h v (HostRequest.GetEvents log)) refl before
    answered_host (HostRequest.ClearEvents log all handles) row = quiet_outcome_keeps c past (host_outcome c h v (HostRequest.ClearEvents log all handles)) (clear_quiet (LogId.Host h) v.log handles (not (log == 4)) all) before
    answered_host (HostRequest.GetConfiguration count first) row = quiet_outcome_keeps c past (host_outcome c h v (HostRequest.GetConfiguration count first)) refl before
    answered_host (HostRequest.GetExtents count first) row = quiet_outcome_keeps c past (host_outcome c h v (HostRequest.GetExtents count first)) refl before
    answered_host (HostRequest.AddResponse more list) row = respond_keeps c sound journal before h host more list row
    answered_host (HostRequest.GiveBack more list) row = give_back_keeps c sound journal before h host more list row

    by_rule : (opcode : ℕ) (request : HostRequest) (found : Option Rule) → host_rule c h (view_of c h journal) request ≡ found
        → Sound c (picture_of c (effects journal ++ effects_with c (effects journal) (dropped h (view_of c h journal) opcode) (unless found (host_outcome c h (view_of c h journal) request))))
    by_rule opcode request None row = answered_host request row
    by_rule opcode request (Some rule) row = refused opcode

    by_request : (opcode : ℕ) (read : Result HostRequest HostFault) → Sound c (picture_of c (effects journal ++ effects_with c (effects journal) (dropped h (view_of c h journal) opcode) (host_result c h (view_of c h journal) read)))
    by_request opcode (Ok request) = by_rule opcode request (host_rule c h v request) refl
    by_request opcode (Err fault) = refused opcode

  -- ---- a command of the Fabric Manager

  answered_manager : (request : FmRequest) → manager_rule c (effects journal) (λ h. view_of c h journal) request ≡ None → Sound c (picture_of c (effects journal ++ effects_of c (effects journal) (manager_outcome c (effects journal) (λ h. view_of c h journal) request)))
  answered_manager (FmRequest.GetEvents log) row = quiet_outcome_keeps c past (manager_outcome c past (λ h. view_of c h journal) (FmRequest.GetEvents log)) refl before
  answered_manager (FmRequest.ClearEvents log all handles) row = quiet_outcome_keeps c past (manager_outcome c past (λ h. view_of c h journal) (FmRequest.ClearEvents log all handles)) (clear_quiet LogId.Manager (log_of LogId.Manager past) handles (not (log == 4)) all) before
  answered_manager FmRequest.GetInfo row = quiet_outcome_keeps c past (manager_outcome c past (λ h. view_of c h journal) FmRequest.GetInfo) refl before
  answered_manager (FmRequest.GetRegions host count first) row = quiet_outcome_keeps c past (manager_outcome c past (λ h. view_of c h journal) (FmRequest.GetRegions host count first)) refl before
  answered_manager (FmRequest.SetRegion r sanitize size) row = set_keeps c sound past before (λ h. view_of c h journal) r sanitize size row
  answered_manager (FmRequest.GetExtentLists host count first) row = quiet_outcome_keeps c past (manager_outcome c past (λ h. view_of c h journal) (FmRequest.GetExtentLists host count first)) refl before
  answered_manager (FmRequest.Add host policy r bytes tag list) row = add_keeps c sound journal before host policy r bytes tag list row
  answered_manager (FmRequest.Remove host flags r bytes tag list) row = remove_keeps c sound journal before host flags r bytes tag list row
  answered_manager (FmRequest.AddReference tag) row = add_reference_keeps c past before tag
  answered_manager (FmRequest.RemoveReference tag) row = remove_reference_keeps c past before tag
  answered_manager (FmRequest.ListTags first count) row = quiet_outcome_keeps c past (manager_outcome c past (λ h. view_of c h journal) (FmRequest.ListTags first count)) refl before

  by_manager_rule : (request : FmRequest) (found : Option Rule) → manager_rule c (effects journal) (λ h. view_of c h journal) request ≡ found
      → Sound c (picture_of c (effects journal ++ effects_with c (effects journal) [] (unless found (manager_outcome c (effects journal) (λ h. view_of c h journal) request))))
  by_manager_rule request None row = answered_manager request row
  by_manager_rule request (Some rule) row = nothing

  by_manager_request : (read : Result FmRequest ManagerFault) → Sound c (picture_of c (effects journal ++ effects_with c (effects journal) [] (manager_result c journal read)))
  by_manager_request (Ok request) = by_manager_rule request (manager_rule c past (λ h. view_of c h journal) request) refl
  by_manager_request (Err fault) = nothing

  -- ---- any entry

  answer_keeps : (actor : Actor) (act : Act) → IsTrue (fits c.hosts actor act) → Sound c (picture_of c (effects journal ++ (right_answer c journal actor act).1))
  answer_keeps (Actor.Host h) (Act.Load d) allowed = nothing
  answer_keeps (Actor.Host h) (Act.Store d value) allowed = nothing
  answer_keeps (Actor.Host h) (Act.Command q) allowed = by_request h (ltb-true h c.hosts allowed) q.opcode (host_request q.opcode q.payload)
  answer_keeps (Actor.Host h) (Act.Scrub n) allowed = nothing
  answer_keeps Actor.Manager (Act.Load d) allowed = nothing
  answer_keeps Actor.Manager (Act.Store d value) allowed = nothing
  answer_keeps Actor.Manager (Act.Command q) allowed = by_manager_request (manager_request q.opcode q.payload)
  answer_keeps Actor.Manager (Act.Scrub n) allowed = nothing
  answer_keeps Actor.Sanitizer (Act.Load d) allowed = nothing
  answer_keeps Actor.Sanitizer (Act.Store d value) allowed = nothing
  answer_keeps Actor.Sanitizer (Act.Command q) allowed = nothing
  answer_keeps Actor.Sanitizer (Act.Scrub n) allowed = quiet_keeps c past (zeroes c (scrubbed c past n)) (zeroes_quiet c (scrubbed c past n)) before

-- One more entry keeps it.
pub entry_keeps : (c : Configuration) → IsSound c → (journal : List Entry) (e : Entry) → Sound c (picture_of c (effects journal)) → Meets c journal e → Sound c (picture_of c (effects (journal ++ e ∷ [])))
entry_keeps c sound journal e before meets =
    let told : effects (journal ++ e ∷ []) ≡ effects journal ++ (right_answer c journal e.actor e.act).1 = effects-push journal e ∙ ap (λ (new : List Effect). effects journal ++ new) meets.effects in
    subst (λ past. Sound c (picture_of c past)) (sym told) (answer_keeps c sound journal before e.actor e.act meets.allowed)

sound_from : (c : Configuration) → IsSound c → (front journal : List Entry) → Sound c (picture_of c (effects front)) → EachFrom front (Meets c) journal → Sound c (picture_of c (effects (front ++ journal)))
sound_from c sound front [] before legal = subst (λ j. Sound c (picture_of c (effects j))) (sym (append-nil front)) before
sound_from c sound front (e ∷ journal) before legal =
    subst (λ j. Sound c (picture_of c (effects j))) (append_assoc front (e ∷ []) journal) (sound_from c sound (front ++ e ∷ []) journal (entry_keeps c sound front e before legal.0) legal.1)

-- Every legal journal has it.
pub legal_is_sound : (c : Configuration) → IsSound c → (journal : List Entry) → Legal c journal → Sound c (picture_of c (effects journal))
legal_is_sound c sound journal legal = sound_from c sound [] journal (first_is_sound c sound) legal
