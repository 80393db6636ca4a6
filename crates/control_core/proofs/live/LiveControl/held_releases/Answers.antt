use Rattle.std.proofs.Common.{◌≡◌, ◌<◌, ap, sym, subst, ◌∙◌}
use Rattle.journal_core.specs.{Entries.effects, declared.outcome.HeldKind.HeldKind}
use Rattle.device_commands.specs.device_rules.specs.Hosts.{held_of}
use Rattle.control_core.{specs.Pasts.ByEveryPast, specs.Pasts.LiveControlled, proofs.Reading.releases_told}
use Rattle.manager_commands.specs.device_state.specs.declared.parts.HostPart.{HostPart}
use Rattle.control_core.proofs.live.LiveControl.held_releases.Goals as goal

pub returns : goal.returns
returns c =
    let host = subst (λ (d : LiveControlled). c.args.host < d.config.hosts) (sym c.self.view_is) c.requires in
    subst (λ (d : LiveControlled). ByEveryPast d (λ past. c.releases.result.now ≡ held_of c.args.host HeldKind.Releases (effects past))) c.self.view_is
    (λ past leads. c.releases.ensures ∙ ap (λ (part : HostPart). part.lists.releases) c.part.ensures ∙ releases_told c.self.inside.config past c.self.inside.state leads.kept c.args.host host)
