use Rattle.std.proofs.{Common.◌∙◌, Common.◌++◌, Common.List, Common.subst, lemmas.Result.IfOk-weaker}
use Rattle.event_records.specs.declared.events.EventKind.{EventKind}
use Rattle.journal_core.specs.declared.outcome.Effect.{Effect}
use Rattle.device_state.specs.device_rules.specs.ReleaseOutcomes.{removals}
use Rattle.manager_commands.specs.InitiateDynamicCapacityRelease.{IsDrafted}
use Rattle.manager_commands.proofs.initiate_dynamic_capacity_release.by_force.Goals as goal

pub returns : goal.returns
returns c =
    IfOk-weaker c.removal_draft.result _ _ (λ d is. subst (λ (es : List Effect). IsDrafted c.args.host EventKind.Forced es c.args.leaving.now d)
    (c.in_ok-append_leaves.ensures ∙ (λ i. c.new-changes.ensures i ++ removals c.args.config.now c.args.host c.args.cleaning (c.as_slice.ensures i))) is) c.removal_draft.ensures
