use Rattle.std.proofs.Common.{◌∙◌, sym, ap, drop}
use Rattle.extent_list.specs.HostLists.{Lists}
use Rattle.journal_core.specs.declared.outcome.Effect.{Effect}
use Rattle.device_state.proofs.{Listed.of_answer, OwnEffects.enters_answer, OwnEffects.of_another}
use Rattle.device_state.proofs.own_lists.enter_answer.Goals as goal

pub returns-then-of-host : goal.returns-then-of-host
returns-then-of-host c = c.drop_oldest.ensures ∙ ap (λ (l : Lists). record l { offers = drop 1 l.offers }) c.enter_accepted.ensures ∙ enters_answer c.args.config.now c.args.host c.args.of c.args.lists.now c.args.extents.now (sym c.of.view_is ∙ c.if-of-host.true ∙ c.host.view_is)

pub returns-else-of-host : goal.returns-else-of-host
returns-else-of-host c = of_another c.args.config.now c.args.host c.args.of c.args.lists.now (Effect.Answer c.args.of c.args.extents.now) (of_answer c.args.config.now c.args.of c.args.extents.now) (λ same. c.if-of-host.false (c.of.view_is ∙ same ∙ sym c.host.view_is))

pub enter_accepted-requires : goal.enter_accepted-requires
enter_accepted-requires c = c.requires (sym c.of.view_is ∙ c.if-of-host.true ∙ c.host.view_is)
