use Rattle.std.proofs.Common.{◌≡◌, ◌<◌, length, ap, sym, subst, ◌∙◌, arith}
use Rattle.journal_core.specs.Entries.{effects}
use Rattle.device_commands.specs.device_rules.specs.Counts.{extent_count}
use Rattle.manager_commands.specs.device_state.specs.{StateAfter.part_of, declared.parts.HostPart.HostPart}
use Rattle.control_core.{specs.Pasts.ByEveryPast, specs.Pasts.LiveControlled, proofs.Reading.accepted_told, proofs.Reading.extents_told, proofs.Reading.held_in_kept}
use Rattle.control_core.proofs.live.LiveControl.extents.Goals as goal

pub overflow_cast-result : goal.overflow_cast-result
overflow_cast-result c =
    let host = subst (λ (d : LiveControlled). c.args.host < d.config.hosts) (sym c.self.view_is) c.requires in
    let held = held_in_kept c.self.inside.config c.self.inside.state c.self.invariant c.args.host host in
    let long : c.len.result ≡ length (part_of c.self.inside.state c.args.host).lists.accepted =
    c.len.ensures ∙ ap length c.accepted.ensures ∙ ap (λ (part : HostPart). length part.lists.accepted) c.part.ensures in
    omega (arith, long, held.few)

pub returns : goal.returns
returns c =
    let host = subst (λ (d : LiveControlled). c.args.host < d.config.hosts) (sym c.self.view_is) c.requires in
    subst (λ (d : LiveControlled). ByEveryPast d (λ past. c.len.result ≡ extent_count d.config c.args.host (effects past))) c.self.view_is
    (λ past leads. c.len.ensures ∙ ap length c.accepted.ensures ∙ ap (λ (part : HostPart). length part.lists.accepted) c.part.ensures
    ∙ ap length (accepted_told c.self.inside.config past c.self.inside.state leads.kept c.args.host host)
    ∙ extents_told c.self.inside.config past c.args.host)
