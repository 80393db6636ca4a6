use Rattle.std.proofs.Common.{sym, ap, ◌∙◌}
use Rattle.extent_list.{specs.declared.placing.Area.Area, proofs.FitFront.begins_at}
use Rattle.media_map.specs.Places.{is_within}
use Rattle.extent_list.proofs.tag_rules.is_shareable_near.Goals as goal

pub returns-then-has_address : goal.returns-then-has_address
returns-then-has_address c =
    let x = c.args.extent.now in
    ap (λ (a : Area). a.shareable) c.requires.area
    ∙ sym (begins_at c.args.config.now c.args.host c.args.region x c.regions-regions.ensures.sound c.requires.host c.requires.region
    (ap (λ (a : Area). is_within a.bounds x.start) (sym c.requires.area) ∙ sym c.has_address.ensures ∙ c.if-has_address.true))
