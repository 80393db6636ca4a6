use Rattle.std.proofs.Common.{◌∙◌, sym}
use Rattle.journal_core.specs.declared.outcome.Effect.{Effect}
use Rattle.device_state.proofs.{Listed.of_offer, OwnEffects.enters_offer, OwnEffects.of_another}
use Rattle.device_state.proofs.own_lists.enter_offer.Goals as goal

pub returns-then-of-host : goal.returns-then-of-host
returns-then-of-host c = c.enter_offer.ensures ∙ enters_offer c.args.config.now c.args.host c.args.of c.args.lists.now c.args.extents.now (sym c.of.view_is ∙ c.if-of-host.true ∙ c.host.view_is)

pub returns-else-of-host : goal.returns-else-of-host
returns-else-of-host c = of_another c.args.config.now c.args.host c.args.of c.args.lists.now (Effect.Offer c.args.of c.args.extents.now) (of_offer c.args.config.now c.args.of c.args.extents.now) (λ same. c.if-of-host.false (c.of.view_is ∙ same ∙ sym c.host.view_is))

pub enter_offer-requires-clause-offers : goal.enter_offer-requires-clause-offers
enter_offer-requires-clause-offers c = (c.requires (sym c.of.view_is ∙ c.if-of-host.true ∙ c.host.view_is)).0

pub enter_offer-requires-clause-extents : goal.enter_offer-requires-clause-extents
enter_offer-requires-clause-extents c = (c.requires (sym c.of.view_is ∙ c.if-of-host.true ∙ c.host.view_is)).1
