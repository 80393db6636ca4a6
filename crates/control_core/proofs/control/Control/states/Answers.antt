use Rattle.std.{proofs.Common.◌≡◌, proofs.Common.subst, specs.Prelude.map}
use Rattle.journal_core.specs.Entries.{effects}
use Rattle.device_commands.specs.device_rules.specs.{Tags.all_granules, Tags.status, GranuleCells.status_of}
use Rattle.control_core.{specs.Steps.Controlled, proofs.Entering.past_held}
use Rattle.control_core.proofs.control.Control.states.Goals as goal

pub returns : goal.returns
returns c = subst (λ (d : Controlled). map status_of c.states.result.now.states ≡ map (λ g. status d.config g (effects d.entries)) (all_granules d.config)) c.self.view_is
    (c.states.ensures c.self.inside.entries.entries (past_held c.self.inside.live.config c.self.inside.entries.entries c.self.inside.live.state c.self.invariant))
