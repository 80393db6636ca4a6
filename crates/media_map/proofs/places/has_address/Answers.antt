use Rattle.std.proofs.Common.{ap, sym, ◌∙◌}
use Rattle.media_map.{specs.Places.is_within, specs.declared.bounds.Bounds.Bounds, proofs.RunLemmas.region_at_is}
use Rattle.media_map.proofs.places.has_address.Goals as goal

pub returns-clause-only : goal.returns-clause-only
returns-clause-only c = λ yes.
    region_at_is c.args.config.now c.args.host c.regions-regions.ensures.sound c.requires.host c.args.dpa c.args.region c.requires.region
    (ap (λ (b : Bounds). is_within b c.args.dpa) (sym c.bounds_of.ensures) ∙ sym c.has_address.ensures ∙ yes)
