use Rattle.std.proofs.Common.{◌≡◌, IfOk, subst}
use Rattle.device_commands.specs.device_rules.specs.Answers.{broken}
use Rattle.control_core.{specs.Steps.Controlled, proofs.Entering.past_held, proofs.Entering.of_every}
use Rattle.control_core.proofs.control.Control.broken.Goals as goal

pub returns : goal.returns
returns c =
    let live = c.self.inside.live in
    let journal = c.self.inside.entries.entries in
    subst (λ (d : Controlled). IfOk c.broken.result (λ rule. rule ≡ broken d.config d.entries c.args.actor.now c.args.act.now)) c.self.view_is
    (of_every c.broken.result (λ past rule. rule ≡ broken live.config past c.args.actor.now c.args.act.now) live.config live.state journal
    (past_held live.config journal live.state c.self.invariant) c.broken.ensures)
