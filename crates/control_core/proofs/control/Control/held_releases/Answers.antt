use Rattle.std.proofs.Common.{◌≡◌, subst}
use Rattle.journal_core.specs.{Entries.effects, declared.outcome.HeldKind.HeldKind}
use Rattle.device_commands.specs.device_rules.specs.Hosts.{held_of}
use Rattle.control_core.{specs.Steps.Controlled, proofs.Entering.past_held}
use Rattle.control_core.proofs.control.Control.held_releases.Goals as goal

pub returns : goal.returns
returns c = subst (λ (d : Controlled). c.held_releases.result.now ≡ held_of c.args.host HeldKind.Releases (effects d.entries)) c.self.view_is
    (c.held_releases.ensures c.self.inside.entries.entries (past_held c.self.inside.live.config c.self.inside.entries.entries c.self.inside.live.state c.self.invariant))
