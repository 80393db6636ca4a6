use Rattle.std.proofs.Common.{◌≡◌, sym, subst, ◌∙◌}
use Rattle.event_log.specs.Logs.{places_in, state_of}
use Rattle.device_commands.specs.device_rules.specs.Logs.{log_of}
use Rattle.journal_core.specs.Entries.{effects}
use Rattle.control_core.{specs.Pasts.ByEveryPast, specs.Pasts.LiveControlled, proofs.Reading.log_is}
use Rattle.manager_commands.specs.device_state.specs.Updates.{IsOfLog}
use Rattle.control_core.proofs.live.LiveControl.log.Goals as goal

pub returns : goal.returns
returns c =
    let known = subst (λ (d : LiveControlled). IsOfLog d.config.hosts c.args.log) (sym c.self.view_is) c.requires in
    subst (λ (d : LiveControlled). ByEveryPast d (λ past. c.log.result.now ≡ state_of (places_in c.args.log) (log_of c.args.log (effects past)))) c.self.view_is
    (λ past leads. c.log.ensures ∙ log_is c.self.inside.config past c.self.inside.state leads.kept c.args.log known)
