use Rattle.std.proofs.Common.{◌∙◌, ◌++◌, ◌∷◌, [], List, ap, map}
use Rattle.event_records.specs.{dcd_base.specs.declared.steps.LogId.LogId, declared.events.EventKind.EventKind}
use Rattle.journal_core.specs.declared.outcome.Effect.{Effect}
use Rattle.device_state.specs.device_rules.specs.Outcomes.{records_of_extents}
use Rattle.device_commands.specs.Drafts.{as_records}
use Rattle.manager_commands.proofs.initiate_dynamic_capacity_add.offer_draft.Goals as goal

pub returns : goal.returns
returns c = record {
  payload = c.new.ensures;
  changes_are = c.in_ok-push.ensures.pushed ∙ ap (λ (es : List Effect). es ++ Effect.Offer c.args.host c.args.extents ∷ []) c.new-changes.ensures;
  tags_are = c.new-2.ensures;
  log_records = λ w. ap (map (as_records w)) c.in_ok-log_records.ensures
      ∙ ap (λ xs. (LogId.Host c.args.host, records_of_extents c.args.host w EventKind.Add xs) ∷ []) c.as_slice.ensures;
}
