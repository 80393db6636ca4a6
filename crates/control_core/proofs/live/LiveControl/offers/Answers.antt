use Rattle.std.proofs.Common.{◌≡◌, ◌<◌, length, ap, sym, subst, ◌∙◌}
use Rattle.journal_core.specs.Entries.{effects}
use Rattle.device_commands.specs.device_rules.specs.Hosts.{offers_of}
use Rattle.control_core.{specs.Pasts.ByEveryPast, specs.Pasts.LiveControlled, proofs.Reading.offers_told}
use Rattle.manager_commands.specs.device_state.specs.declared.parts.HostPart.{HostPart}
use Rattle.control_core.proofs.live.LiveControl.offers.Goals as goal

pub returns : goal.returns
returns c =
    let host = subst (λ (d : LiveControlled). c.args.host < d.config.hosts) (sym c.self.view_is) c.requires in
    subst (λ (d : LiveControlled). ByEveryPast d (λ past. c.offer_count.result ≡ length (offers_of c.args.host (effects past)))) c.self.view_is
    (λ past leads. c.offer_count.ensures ∙ ap (λ (part : HostPart). length part.lists.offers) c.part.ensures ∙ ap length (offers_told c.self.inside.config past c.self.inside.state leads.kept c.args.host host))
