use Rattle.std.proofs.{Common.List, Common.subst, lemmas.Result.IfOk-weaker}
use Rattle.event_records.specs.declared.events.EventKind.{EventKind}
use Rattle.journal_core.specs.declared.outcome.Effect.{Effect}
use Rattle.manager_commands.specs.InitiateDynamicCapacityRelease.{IsDrafted}
use Rattle.manager_commands.proofs.initiate_dynamic_capacity_release.by_request.Goals as goal

pub returns : goal.returns
returns c =
    IfOk-weaker c.removal_draft.result _ _ (λ d is. subst (λ (es : List Effect). IsDrafted c.args.host EventKind.Release es c.args.leaving.now d) c.new.ensures is) c.removal_draft.ensures
