use Rattle.std.{proofs.Common.◌≡◌, proofs.Common.ap, proofs.Common.subst, proofs.Common.◌∙◌, specs.Prelude.map}
use Rattle.device_commands.specs.device_rules.specs.{Tags.all_granules, Tags.status, GranuleCells.status_of}
use Rattle.journal_core.specs.Entries.{effects}
use Rattle.control_core.{specs.Pasts.ByEveryPast, specs.Pasts.LiveControlled, proofs.Reading.states_told}
use Rattle.control_core.proofs.live.LiveControl.states.Goals as goal

pub returns : goal.returns
returns c = subst (λ (d : LiveControlled). ByEveryPast d (λ past. map status_of c.states.result.now.states ≡ map (λ g. status d.config g (effects past)) (all_granules d.config))) c.self.view_is
    (λ past leads. ap (map status_of) c.states.ensures ∙ states_told c.self.inside.config past c.self.inside.state leads.kept)
