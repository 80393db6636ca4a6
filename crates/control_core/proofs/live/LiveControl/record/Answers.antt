use Rattle.std.proofs.Common.{◌≡◌, ◌<◌, List, length, Some, ap, sym, subst, ◌∙◌}
use Rattle.std.specs.Prelude.{slice_get}
use Rattle.event_log.specs.LogStates.{LogState}
use Rattle.event_records.specs.declared.events.Event.{Event}
use Rattle.journal_core.specs.Entries.{effects}
use Rattle.device_commands.specs.device_rules.specs.Counts.{records_of}
use Rattle.control_core.{specs.Pasts.ByEveryPast, specs.Pasts.LiveControlled, proofs.Reading.records_told}
use Rattle.manager_commands.specs.device_state.specs.Updates.{IsOfLog, log_in}
use Rattle.control_core.proofs.live.LiveControl.record.Goals as goal

pub at-requires : goal.at-requires
at-requires c =
    let below = subst (λ (d : LiveControlled). c.args.index < length (log_in d.state c.args.log).records) (sym c.self.view_is) c.requires.index in
    subst (λ (log : LogState). c.args.index < length log.records) (sym c.log.ensures) below

pub returns : goal.returns
returns c =
    let known = subst (λ (d : LiveControlled). IsOfLog d.config.hosts c.args.log) (sym c.self.view_is) c.requires.log in
    let told = ap (λ (log : LogState). log.records) c.log.ensures in
    subst (λ (d : LiveControlled). ByEveryPast d (λ past. slice_get (records_of c.args.log (effects past)) c.args.index ≡ Some c.at.result)) c.self.view_is
    (λ past leads.
    ap (λ (records : List Event). slice_get records c.args.index)
    (sym (told ∙ records_told c.self.inside.config past c.self.inside.state leads.kept c.args.log known)) ∙ c.at.ensures)
