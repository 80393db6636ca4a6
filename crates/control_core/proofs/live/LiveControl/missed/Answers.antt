use Rattle.std.proofs.Common.{◌≡◌, ap, sym, subst, ◌∙◌}
use Rattle.event_log.specs.LogStates.{LogState}
use Rattle.journal_core.specs.Entries.{effects}
use Rattle.device_commands.specs.device_rules.specs.Counts.{missed_of}
use Rattle.control_core.{specs.Pasts.ByEveryPast, specs.Pasts.LiveControlled, proofs.Reading.missed_told}
use Rattle.manager_commands.specs.device_state.specs.Updates.{IsOfLog}
use Rattle.control_core.proofs.live.LiveControl.missed.Goals as goal

pub returns : goal.returns
returns c =
    let known = subst (λ (d : LiveControlled). IsOfLog d.config.hosts c.args.log) (sym c.self.view_is) c.requires in
    subst (λ (d : LiveControlled). ByEveryPast d (λ past. c.missed.result ≡ missed_of c.args.log (effects past))) c.self.view_is
    (λ past leads. c.missed.ensures ∙ ap (λ (log : LogState). log.missed) c.log.ensures
    ∙ missed_told c.self.inside.config past c.self.inside.state leads.kept c.args.log known)
