use Rattle.std.proofs.Common.{◌≡◌, length, subst}
use Rattle.journal_core.specs.Entries.{effects}
use Rattle.device_commands.specs.device_rules.specs.Hosts.{offers_of}
use Rattle.control_core.{specs.Steps.Controlled, proofs.Entering.past_held}
use Rattle.control_core.proofs.control.Control.offers.Goals as goal

pub returns : goal.returns
returns c = subst (λ (d : Controlled). c.offers.result ≡ length (offers_of c.args.host (effects d.entries))) c.self.view_is
    (c.offers.ensures c.self.inside.entries.entries (past_held c.self.inside.live.config c.self.inside.entries.entries c.self.inside.live.state c.self.invariant))
