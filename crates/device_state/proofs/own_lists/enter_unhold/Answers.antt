use Rattle.std.proofs.Common.{◌∙◌, sym}
use Rattle.journal_core.specs.declared.outcome.Effect.{Effect}
use Rattle.device_state.proofs.{Listed.of_unhold, OwnEffects.enters_unhold, OwnEffects.of_another}
use Rattle.device_state.proofs.own_lists.enter_unhold.Goals as goal

pub returns-then-of-host : goal.returns-then-of-host
returns-then-of-host c = c.drop_held_in.ensures ∙ enters_unhold c.args.config.now c.args.host c.args.of c.args.lists.now c.args.kind (sym c.of.view_is ∙ c.if-of-host.true ∙ c.host.view_is)

pub returns-else-of-host : goal.returns-else-of-host
returns-else-of-host c = of_another c.args.config.now c.args.host c.args.of c.args.lists.now (Effect.Unhold c.args.of c.args.kind) (of_unhold c.args.config.now c.args.of c.args.kind) (λ same. c.if-of-host.false (c.of.view_is ∙ same ∙ sym c.host.view_is))
