use Rattle.std.proofs.Common.{◌≡◌, ◌<◌, ap, sym, subst, ◌∙◌}
use Rattle.journal_core.specs.Entries.{effects}
use Rattle.device_commands.specs.device_rules.specs.Hosts.{accepted_of}
use Rattle.control_core.{specs.Pasts.ByEveryPast, specs.Pasts.LiveControlled, proofs.Reading.accepted_told}
use Rattle.manager_commands.specs.device_state.specs.declared.parts.HostPart.{HostPart}
use Rattle.control_core.proofs.live.LiveControl.accepted.Goals as goal

pub returns : goal.returns
returns c =
    let host = subst (λ (d : LiveControlled). c.args.host < d.config.hosts) (sym c.self.view_is) c.requires in
    subst (λ (d : LiveControlled). ByEveryPast d (λ past. c.as_slice.result.now ≡ accepted_of d.config c.args.host (effects past))) c.self.view_is
    (λ past leads. c.as_slice.ensures ∙ c.accepted.ensures ∙ ap (λ (part : HostPart). part.lists.accepted) c.part.ensures ∙ accepted_told c.self.inside.config past c.self.inside.state leads.kept c.args.host host)
