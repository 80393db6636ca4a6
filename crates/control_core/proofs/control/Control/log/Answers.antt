use Rattle.std.proofs.Common.{◌≡◌, subst}
use Rattle.journal_core.specs.Entries.{effects}
use Rattle.event_log.specs.Logs.{places_in, state_of}
use Rattle.device_commands.specs.device_rules.specs.Logs.{log_of}
use Rattle.control_core.{specs.Steps.Controlled, proofs.Entering.past_held}
use Rattle.control_core.proofs.control.Control.log.Goals as goal

pub returns : goal.returns
returns c = subst (λ (d : Controlled). c.log.result.now ≡ state_of (places_in c.args.log) (log_of c.args.log (effects d.entries))) c.self.view_is
    (c.log.ensures c.self.inside.entries.entries (past_held c.self.inside.live.config c.self.inside.entries.entries c.self.inside.live.state c.self.invariant))
