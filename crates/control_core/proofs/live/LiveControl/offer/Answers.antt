use Rattle.std.proofs.Common.{◌≡◌, ◌<◌, List, length, Some, ap, sym, subst, ◌∙◌}
use Rattle.std.specs.Prelude.{slice_get}
use Rattle.cci_codec.specs.dcd_base.specs.declared.capacity.Extent.{Extent}
use Rattle.journal_core.specs.Entries.{effects}
use Rattle.device_commands.specs.device_rules.specs.Hosts.{offers_of}
use Rattle.control_core.{specs.Pasts.ByEveryPast, specs.Pasts.LiveControlled, proofs.Reading.offers_told}
use Rattle.manager_commands.specs.device_state.specs.{StateAfter.part_of, declared.parts.HostPart.HostPart}
use Rattle.control_core.proofs.live.LiveControl.offer.Goals as goal

pub offer_at-requires : goal.offer_at-requires
offer_at-requires c =
    let below = subst (λ (d : LiveControlled). c.args.index < length (part_of d.state c.args.host).lists.offers) (sym c.self.view_is) c.requires.index in
    subst (λ (part : HostPart). c.args.index < length part.lists.offers) (sym c.part.ensures) below

pub returns : goal.returns
returns c =
    let host = subst (λ (d : LiveControlled). c.args.host < d.config.hosts) (sym c.self.view_is) c.requires.host in
    let told = ap (λ (part : HostPart). part.lists.offers) c.part.ensures in
    subst (λ (d : LiveControlled). ByEveryPast d (λ past. slice_get (offers_of c.args.host (effects past)) c.args.index ≡ Some c.offer_at.result.now)) c.self.view_is
    (λ past leads.
    ap (λ (offers : List (List Extent)). slice_get offers c.args.index)
    (sym (told ∙ offers_told c.self.inside.config past c.self.inside.state leads.kept c.args.host host)) ∙ c.offer_at.ensures)
