use Rattle.std.proofs.Common.{◌∙◌, sym}
use Rattle.journal_core.specs.declared.outcome.Effect.{Effect}
use Rattle.device_state.proofs.{Listed.of_hold, OwnEffects.enters_hold, OwnEffects.of_another}
use Rattle.device_state.proofs.own_lists.enter_hold.Goals as goal

pub returns-then-of-host : goal.returns-then-of-host
returns-then-of-host c = c.hold_in.ensures ∙ enters_hold c.args.config.now c.args.host c.args.of c.args.lists.now c.args.kind c.args.extents.now (sym c.of.view_is ∙ c.if-of-host.true ∙ c.host.view_is)

pub returns-else-of-host : goal.returns-else-of-host
returns-else-of-host c = of_another c.args.config.now c.args.host c.args.of c.args.lists.now (Effect.Hold c.args.of c.args.kind c.args.extents.now) (of_hold c.args.config.now c.args.of c.args.kind c.args.extents.now) (λ same. c.if-of-host.false (c.of.view_is ∙ same ∙ sym c.host.view_is))

pub hold_in-requires : goal.hold_in-requires
hold_in-requires c = c.requires (sym c.of.view_is ∙ c.if-of-host.true ∙ c.host.view_is)
