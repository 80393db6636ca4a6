use Rattle.std.proofs.Common.{◌≡◌, ◌<◌, sym, subst, ◌∙◌, ap}
use Rattle.cci_codec.specs.dcd_base.specs.Hosts.{has_host}
use Rattle.journal_core.specs.{Entries.effects, Holders.holds}
use Rattle.extent_list.specs.media_map.specs.region_config.specs.Granules.{granule_total}
use Rattle.control_core.specs.Pasts.{ByEveryPast, LiveControlled}
use Rattle.control_core.proofs.live.LiveControl.holds.Goals as goal

pub returns : goal.returns
returns c =
    let host = subst (λ (d : LiveControlled). c.args.host < d.config.hosts) (sym c.self.view_is) c.requires.host in
    let granule = subst (λ (d : LiveControlled). c.args.granule < granule_total d.config) (sym c.self.view_is) c.requires.granule in
    subst (λ (d : LiveControlled). ByEveryPast d (λ past. c.has.result ≡ holds c.args.host c.args.granule (effects past))) c.self.view_is
    (λ past leads. c.has.ensures ∙ ap (λ bits. has_host bits c.args.host) c.at.ensures ∙ leads.kept.held c.args.granule c.args.host granule host)
