use Rattle.std.proofs.Common.{◌∙◌, arith, sym}
use Rattle.extent_list.specs.ExtentLists.{cut}
use Rattle.journal_core.specs.declared.outcome.Effect.{Effect}
use Rattle.device_state.proofs.{Listed.of_leave, OwnEffects.enters_leave, OwnEffects.of_another}
use Rattle.device_state.proofs.own_lists.enter_leave.Goals as goal

pub returns-then-of-host : goal.returns-then-of-host
returns-then-of-host c = c.enter_leaves.ensures ∙ (λ i. record c.args.lists.now { accepted = cut (c.extent_of-range.ensures.value i).start (c.extent_of-range.ensures.value i).length c.args.lists.now.accepted }) ∙ enters_leave c.args.config.now c.args.host c.args.of c.args.lists.now c.args.run.now (sym c.of.view_is ∙ c.if-of-host.true ∙ c.host.view_is)

pub returns-else-of-host : goal.returns-else-of-host
returns-else-of-host c = of_another c.args.config.now c.args.host c.args.of c.args.lists.now (Effect.Leave c.args.of c.args.run.now) (of_leave c.args.config.now c.args.of c.args.run.now) (λ same. c.if-of-host.false (c.of.view_is ∙ same ∙ sym c.host.view_is))

pub extent_of-range-requires-clause-run : goal.extent_of-range-requires-clause-run
extent_of-range-requires-clause-run c = (c.requires.places (sym c.of.view_is ∙ c.if-of-host.true ∙ c.host.view_is)).1

pub enter_leaves-requires-clause-few : goal.enter_leaves-requires-clause-few
enter_leaves-requires-clause-few c = omega (arith, (c.requires.places (sym c.of.view_is ∙ c.if-of-host.true ∙ c.host.view_is)).0)
