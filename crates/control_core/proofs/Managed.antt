-- A command of the Fabric Manager is entered as its outcome.
use Rattle.std.proofs.Common.{◌≡◌, ℕ, ◌+◌, ◌<◌, ◌≤◌, Some, List, [], ◌++◌, length, map, flat_map, None, refl, sym, ap, ◌∙◌, subst, arith, zero, suc}
use Rattle.std.specs.{Prelude.All, List.AllByRecursion, List.range_with_len, declared.result.Result.TheVariants.Ok, declared.result.Result.TheVariants.Err}
use Rattle.cci_codec.specs.dcd_base.specs.declared.{capacity.Tag.Tag, ids.HostId.HostId, steps.Actor.Actor, steps.LogId.LogId}
use Rattle.cci_codec.specs.declared.messages.Request.{Request}
use Rattle.extent_list.specs.dcd_codes.specs.{Rules.ByRow, Rules.code_of, declared.codes.Code.Code, declared.refusals.Refusal.Refusal, declared.rules.Rule.Rule}
use Rattle.extent_list.specs.media_map.specs.region_config.specs.{Configurations.Configuration, Soundness.IsSound}
use Rattle.event_records.specs.declared.events.Event.{Event}
use Rattle.fm_payloads.specs.{ManagerPayloads.manager_request, declared.requests.FmRequest.FmRequest}
use Rattle.journal_core.specs.{Entries.effects, declared.acts.Act.Act, declared.acts.Reply.Reply, declared.entries.Entry.Entry, declared.outcome.Effect.Effect}
use Rattle.device_commands.specs.{Drafts.Informs, Drafts.IsOutcome, Drafts.as_records, declared.draft.Draft.Draft, declared.log_records.LogRecords.LogRecords}
use Rattle.device_commands.specs.device_rules.proofs.{LegalSound.legal_is_sound, ReferenceSteps.ended-reference}
use Rattle.device_commands.specs.device_rules.specs.Answers.{effects_with, manager_outcome, manager_result, manager_rule, reply_with, response, unless}
use Rattle.device_commands.specs.device_rules.specs.{Legal.Legal, Logs.log_of, Outcomes.Outcome, Outcomes.ended, Outcomes.entered_all, Views.View, Views.view_of}
use Rattle.manager_commands.specs.{device_state.specs.StateAfter.IsStateAfter, device_state.specs.Updates.IsOfLog, device_state.specs.declared.state.State.State, ManagerMessages.DraftsFor}
use Rattle.control_core.{proofs.Decisions.records_known, proofs.Recorded.told_is, specs.Deciding.IsDecidedBy, specs.Deciding.IsShort, specs.Doing.IsDone}
use Rattle.control_core.specs.{Managing.Manages, Managing.ended_by, Managing.changed_host, Recording.events_of, Recording.records_told, declared.decided.Decided.Decided}

-- ---- the draft

pub entered_done : (c : Configuration) (before : List Entry) (q : Request) (o : Outcome) (over : List Tag) → ended c (effects before) o.changes o.tags ≡ over →
    (draft : Draft) → Informs c.hosts (λ h. view_of c h before) o draft → (reply : Reply) (new : List Effect) → reply ≡ response q Code.Success draft.payload →
    new ≡ (draft.changes ++ map Effect.TagEnd over) ++ records_told (effects before) (events_of (λ h. view_of c h before)) draft.log_records →
    IsDone c before q o (record { reply = reply; effects = new })
entered_done c before q o over over_are draft is reply new answers new_is = record {
  reply = answers ∙ ap (response q Code.Success) is.payload;
  effects = new_is
      ∙ (λ i. (is.changes i ++ map Effect.TagEnd (sym over_are i)) ++ told_is (effects before) (events_of (λ h. view_of c h before)) draft.log_records i)
      ∙ ap (λ log_records. (o.changes ++ map Effect.TagEnd (ended c (effects before) o.changes o.tags)) ++ flat_map (λ n. entered_all n.0 (log_of n.0 (effects before)) n.1) log_records) is.log_records;
}

-- a draft that tells nothing tells what each host has
pub informs_nothing : (hosts : ℕ) (view_for : HostId → View) (o : Outcome) (draft : Draft) → IsOutcome o draft → Informs hosts view_for o draft
informs_nothing hosts view_for o draft is = record {
  payload = is.payload;
  changes = is.changes;
  tags = is.tags;
  log_records = ap (map (λ (n : LogRecords). as_records (view_for n.host) n)) is.log_records ∙ sym is.untold;
  known = subst (λ (ns : List LogRecords). All (λ (n : LogRecords). n.host < hosts) ns) (sym is.log_records) (λ i d less. absurd (omega (arith, less)));
}

-- ---- the requests

module _ (c : Configuration) (before : List Entry) where
  -- the tags that end by one that changes no lists
  pub quiet_ended : IsSound c → Legal c before → (s : State) → IsStateAfter c before s → (q : FmRequest) → changed_host q ≡ None →
      ended c (effects before) (manager_outcome c (effects before) (λ h. view_of c h before) q).changes (manager_outcome c (effects before) (λ h. view_of c h before) q).tags ≡ ended_by s.tags.entries q
  quiet_ended sound legal s kept (FmRequest.RemoveReference tag) none = ended-reference c (effects before) (legal_is_sound c sound before legal) tag s.tags.entries kept.tags_are
  quiet_ended sound legal s kept (FmRequest.GetEvents log) none = refl
  quiet_ended sound legal s kept (FmRequest.ClearEvents log all handles) none = refl
  quiet_ended sound legal s kept FmRequest.GetInfo none = refl
  quiet_ended sound legal s kept (FmRequest.GetRegions host count first) none = refl
  quiet_ended sound legal s kept (FmRequest.SetRegion r sanitize size) none = refl
  quiet_ended sound legal s kept (FmRequest.GetExtentLists host count first) none = refl
  quiet_ended sound legal s kept (FmRequest.ListTags first count) none = refl
  quiet_ended sound legal s kept (FmRequest.AddReference tag) none = refl
  quiet_ended sound legal s kept (FmRequest.Add host policy r bytes tag list) none = absurd (cc)
  quiet_ended sound legal s kept (FmRequest.Remove host flags r bytes tag list) none = absurd (cc)

  -- ---- the logs that are told

  range_known : (hosts a n : ℕ) (event : ℕ → List Event) → a + n ≤ hosts → AllByRecursion (λ (n : LogId × List Event). IsOfLog hosts n.0) (map (λ h. (LogId.Host h, event h)) (range_with_len a n))
  range_known hosts a zero event within = tt
  range_known hosts a (suc n) event within = (omega (arith, within), range_known hosts (a + 1) n event (omega (arith, within)))

  pub quiet_known : (q : FmRequest) → changed_host q ≡ None → AllByRecursion (λ (n : LogId × List Event). IsOfLog c.hosts n.0) (manager_outcome c (effects before) (λ h. view_of c h before) q).log_records
  quiet_known (FmRequest.GetEvents log) none = tt
  quiet_known (FmRequest.ClearEvents log all handles) none = tt
  quiet_known FmRequest.GetInfo none = tt
  quiet_known (FmRequest.GetRegions host count first) none = tt
  quiet_known (FmRequest.SetRegion r sanitize size) none = range_known c.hosts 0 c.hosts _ (omega arith)
  quiet_known (FmRequest.GetExtentLists host count first) none = tt
  quiet_known (FmRequest.ListTags first count) none = tt
  quiet_known (FmRequest.AddReference tag) none = tt
  quiet_known (FmRequest.RemoveReference tag) none = tt
  quiet_known (FmRequest.Add host policy r bytes tag list) none = absurd (cc)
  quiet_known (FmRequest.Remove host flags r bytes tag list) none = absurd (cc)

  -- ---- the answer

  module _ (q : Request) (r : FmRequest) (asked : manager_request q.opcode q.payload ≡ Ok r) where
    pub decided_manager : manager_rule c (effects before) (λ h. view_of c h before) r ≡ None → (d : Decided) → IsDone c before q (manager_outcome c (effects before) (λ h. view_of c h before) r) d →
        length (manager_outcome c (effects before) (λ h. view_of c h before) r).payload ≤ 2048 → IsDecidedBy c before Actor.Manager (Act.Command q) d
    decided_manager row d done short =
        let o : Outcome = manager_outcome c (effects before) (λ h. view_of c h before) r in
        let is : manager_result c before (manager_request q.opcode q.payload) ≡ Ok (manager_outcome c (effects before) (λ h. view_of c h before) r) =
        ap (manager_result c before) asked ∙ ap (λ rule. unless rule (manager_outcome c (effects before) (λ h. view_of c h before) r)) row in record {
          reply = done.reply ∙ sym (ap (reply_with q) is);
          effects = done.effects ∙ sym (ap (effects_with c (effects before) []) is);
          short = subst IsShort (sym done.reply) short;
        }

    pub refused_rule : (rule : Rule) → manager_rule c (effects before) (λ h. view_of c h before) r ≡ Some rule → manager_result c before (manager_request q.opcode q.payload) ≡ Err rule
    refused_rule rule row = ap (manager_result c before) asked ∙ ap (λ broke. unless broke (manager_outcome c (effects before) (λ h. view_of c h before) r)) row

-- a command that is refused
pub manages_err : (c : Configuration) (s : State) (q : Request) (r : FmRequest) → manager_request q.opcode q.payload ≡ Ok r → (P : List Entry → Draft → Type 0) (e : Refusal) →
    ((before : List Entry) → Legal c before → IsStateAfter c before s → ByRow (manager_rule c (effects before) (λ h. view_of c h before) r) (P before) (Err e)) → Manages c s q (Err e)
manages_err c s q r asked P (Refusal.Broken rule) is = λ before legal kept. refused_rule c before q r asked rule (is before legal kept)
manages_err c s q r asked P Refusal.NoMemory is = tt

pub refused_manager : (c : Configuration) (before : List Entry) (q : Request) (rule : Rule) → manager_result c before (manager_request q.opcode q.payload) ≡ Err rule →
    (reply : Reply) (new : List Effect) → reply ≡ response q (code_of rule) [] → new ≡ [] →
    IsDecidedBy c before Actor.Manager (Act.Command q) (record { reply = reply; effects = new })
refused_manager c before q rule is reply new answers none = record {
  reply = answers ∙ sym (ap (reply_with q) is);
  effects = none ∙ sym (ap (effects_with c (effects before) []) is);
  short = subst IsShort (sym answers) (omega arith);
}

-- ---- the logs that a draft tells are kept

-- the draft of a request that changes no lists
pub quiet_drafts : (c : Configuration) (journal : List Entry) (q : FmRequest) → changed_host q ≡ None → (o : Outcome) (d : Draft) → DraftsFor c journal q o d → Informs c.hosts (λ h. view_of c h journal) o d
quiet_drafts c journal (FmRequest.Add h policy r bytes tag list) none o d is = absurd (cc)
quiet_drafts c journal (FmRequest.Remove h flags r bytes tag list) none o d is = absurd (cc)
quiet_drafts c journal (FmRequest.SetRegion r sanitize size) none o d is = is
quiet_drafts c journal q none o d is = informs_nothing c.hosts (λ h. view_of c h journal) o d is

pub quiet_log_records : (c : Configuration) (before : List Entry) (s : State) → IsStateAfter c before s → (q : FmRequest) → changed_host q ≡ None →
    (draft : Draft) → Informs c.hosts (λ h. view_of c h before) (manager_outcome c (effects before) (λ h. view_of c h before) q) draft → All (λ (n : LogRecords). IsOfLog (length s.hosts.items) n.log) draft.log_records
quiet_log_records c before s kept q none draft is =
    records_known (length s.hosts.items) (events_of (λ h. view_of c h before)) draft.log_records (manager_outcome c (effects before) (λ h. view_of c h before) q).log_records is.log_records
    (subst (λ hosts. AllByRecursion (λ (n : LogId × List Event). IsOfLog hosts n.0) (manager_outcome c (effects before) (λ h. view_of c h before) q).log_records) (sym kept.host_count) (quiet_known c before q none))

pub quiet_hosts : (c : Configuration) (before : List Entry) (s : State) → IsStateAfter c before s → (view_for : HostId → View) (o : Outcome) (draft : Draft) → Informs c.hosts view_for o draft →
    All (λ (n : LogRecords). n.host < length s.hosts.items) draft.log_records
quiet_hosts c before s kept view_for o draft is = subst (λ hosts. All (λ (n : LogRecords). n.host < hosts) draft.log_records) (sym kept.host_count) is.known
