use Rattle.std.proofs.Common.{[], sym, ap, ◌∙◌}
use Rattle.journal_core.specs.Holders.{holds}
use Rattle.dcd_c.{specs.Maps.all_changed, proofs.MapSteps.changed_on, proofs.MapSteps.maps_hold}
use Rattle.dcd_c.proofs.laws.law_maps_are_holdings.Goals as goal

pub returns : goal.returns
returns c fresh now first changed moves h host g below =
    let on = changed_on changed [] fresh now first moves in
    maps_hold now.device.config h g (all_changed changed)
    ∙ ap (holds h g) (sym on.tells)
    ∙ sym (on.leads.holders g below h host)
