use Rattle.std.{proofs.Common.sym, proofs.Common.subst, specs.Prelude.All}
use Rattle.journal_core.specs.Entries.{effects}
use Rattle.device_commands.specs.device_rules.specs.Hosts.{block_of}
use Rattle.manager_commands.{proofs.Present.own_blocks, specs.device_state.specs.EnteredLists.Fits, specs.device_state.specs.EnteredLists.lists_of, specs.device_state.specs.Updates.IsOfDevice}
use Rattle.control_core.proofs.Entering.{past_entered, reached_entered, step_fits, step_of_device}
use Rattle.control_core.specs.Pasts.{EntersStep, IsOfStep, LiveControlled}
use Rattle.control_core.proofs.live.LiveControl.enter.Goals as goal

pub enter-requires-clause-present : goal.enter-requires-clause-present
enter-requires-clause-present c =
    own_blocks c.self.inside.config c.self.inside.state.present (λ r. block_of c.self.inside.config r (effects c.self.invariant.journal)) c.self.invariant.kept.present_is

pub enter-requires-clause-of_device : goal.enter-requires-clause-of_device
enter-requires-clause-of_device c =
    subst (λ (d : LiveControlled). All (IsOfDevice d.config) c.args.new.now) (sym c.self.view_is) (step_of_device c.args.self.now c.args.new.now c.requires.step)

pub enter-requires-clause-fits : goal.enter-requires-clause-fits
enter-requires-clause-fits c =
    subst (λ (d : LiveControlled). Fits d.config (lists_of d.state) 1 c.args.new.now) (sym c.self.view_is) (step_fits c.args.self.now c.args.new.now c.requires.step)

pub invariant_of-self : goal.invariant_of-self
invariant_of-self c =
    reached_entered (record { config = c.self.inside.config; state = c.self.inside.state }) c.enter.new.self c.args.new.now
    (subst (λ (d : LiveControlled). IsOfStep d c.args.new.now) (sym c.self.view_is) c.requires.step) c.enter.ensures.entered

pub returns-clause-entered : goal.returns-clause-entered
returns-clause-entered c =
    subst (λ (d : LiveControlled). EntersStep d (record { config = c.self.inside.config; state = c.enter.new.self }) c.args.new.now) c.self.view_is
    (λ past leads e meets are. past_entered c.self.inside.config past c.self.inside.state c.enter.new.self leads e meets c.args.new.now are c.enter.ensures.entered)
