use Rattle.std.proofs.Common.{◌≡◌, None, get_or, subst, sym, take}
use Rattle.dcd_codes.specs.Rules.{each_in}
use Rattle.extent_list.{proofs.FirstOwner.no_extent, proofs.FitFront.each_fits, proofs.ListRules.fit_keeps, specs.Listed.listed_rule, specs.declared.listed.Within.Within}
use Rattle.extent_list.proofs.listed.fit_in_front.Goals as goal

pub returns-in-AnyRegion-clause-fit : goal.returns-in-AnyRegion-clause-fit
returns-in-AnyRegion-clause-fit c = λ owned.
    let list = c.args.list.now in
    subst (λ (w : Within). each_in (take c.fit_front.result list) (listed_rule c.args.config.now c.args.host w c.args.owners.now owned) ≡ None) (sym c.in-AnyRegion.is)
    (each_fits (listed_rule c.args.config.now c.args.host Within.AnyRegion c.args.owners.now owned) list c.fit_front.result no_extent c.fit_front.ensures.known
    (λ i below. fit_keeps c.args.config.now c.args.host c.args.owners.now owned (take i list) (get_or list i no_extent) (c.fit_front.ensures.fit i no_extent below)))
