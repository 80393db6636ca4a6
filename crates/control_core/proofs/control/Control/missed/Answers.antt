use Rattle.std.proofs.Common.{◌≡◌, subst}
use Rattle.journal_core.specs.Entries.{effects}
use Rattle.device_commands.specs.device_rules.specs.Counts.{missed_of}
use Rattle.control_core.{specs.Steps.Controlled, proofs.Entering.past_held}
use Rattle.control_core.proofs.control.Control.missed.Goals as goal

pub returns : goal.returns
returns c = subst (λ (d : Controlled). c.missed.result ≡ missed_of c.args.log (effects d.entries)) c.self.view_is
    (c.missed.ensures c.self.inside.entries.entries (past_held c.self.inside.live.config c.self.inside.entries.entries c.self.inside.live.state c.self.invariant))
