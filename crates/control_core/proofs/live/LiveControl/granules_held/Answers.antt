use Rattle.std.{proofs.Common.◌≡◌, proofs.Common.◌<◌, proofs.Common.List, proofs.Common.ap, proofs.Common.sym, proofs.Common.subst, proofs.Common.◌∙◌, specs.Prelude.sum_by}
use Rattle.cci_codec.specs.dcd_base.specs.declared.capacity.Extent.{Extent}
use Rattle.journal_core.specs.Entries.{effects}
use Rattle.extent_list.specs.media_map.specs.Places.{run_of}
use Rattle.device_commands.specs.device_rules.specs.Counts.{granules_held}
use Rattle.control_core.{specs.HeldExtents.AreHeld, specs.Pasts.ByEveryPast, specs.Pasts.LiveControlled, proofs.Reading.accepted_told, proofs.Reading.granules_told, proofs.Reading.held_in_kept}
use Rattle.manager_commands.specs.device_state.specs.declared.parts.HostPart.{HostPart}
use Rattle.control_core.proofs.live.LiveControl.granules_held.Goals as goal

pub granules_in-requires-clause-held : goal.granules_in-requires-clause-held
granules_in-requires-clause-held c =
    let host = subst (λ (d : LiveControlled). c.args.host < d.config.hosts) (sym c.self.view_is) c.requires in
    let are = c.as_slice.ensures ∙ c.accepted.ensures ∙ ap (λ (part : HostPart). part.lists.accepted) c.part.ensures in
    subst (λ (xs : List Extent). AreHeld c.self.inside.config c.args.host xs) (sym are)
    (held_in_kept c.self.inside.config c.self.inside.state c.self.invariant c.args.host host)

pub returns : goal.returns
returns c =
    let host = subst (λ (d : LiveControlled). c.args.host < d.config.hosts) (sym c.self.view_is) c.requires in
    let are = c.as_slice.ensures ∙ c.accepted.ensures ∙ ap (λ (part : HostPart). part.lists.accepted) c.part.ensures in
    subst (λ (d : LiveControlled). ByEveryPast d (λ past. c.granules_in.result ≡ granules_held d.config c.args.host (effects past))) c.self.view_is
    (λ past leads. c.granules_in.ensures ∙ ap (λ (xs : List Extent). sum_by (λ x. (run_of c.self.inside.config c.args.host x).count) xs)
    (are ∙ accepted_told c.self.inside.config past c.self.inside.state leads.kept c.args.host host)
    ∙ granules_told c.self.inside.config past c.args.host)
