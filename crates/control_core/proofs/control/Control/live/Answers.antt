use Rattle.std.proofs.Common.{subst}
use Rattle.control_core.{specs.Pasts.IsPast, specs.Steps.Controlled, proofs.Entering.past_held}
use Rattle.control_core.proofs.control.Control.live.Goals as goal

pub returns-clause-past : goal.returns-clause-past
returns-clause-past c = subst (λ (d : Controlled). IsPast d.config d.entries c.self.inside.live.state) c.self.view_is
    (past_held c.self.inside.live.config c.self.inside.entries.entries c.self.inside.live.state c.self.invariant)
