use Rattle.std.proofs.Common.{◌≡◌, true, sym, ap, ◌∙◌, subst}
use Rattle.extent_list.{specs.Fitting.IsOwnedBehind, specs.Fitting.area_of, specs.Fitting.fits_area, specs.declared.placing.Area.Area, proofs.FitFront.fit_by, proofs.FitFront.fits_placed}
use Rattle.extent_list.proofs.fitted_front.fits_behind.Goals as goal

pub returns-then-has : goal.returns-then-has
returns-then-has c = λ yes.
    let config = c.args.config.now in
    let x = c.args.extent.now in
    let fits : fits_area (area_of config c.args.host c.args.region) x ≡ true = ap (λ (a : Area). fits_area a x) (sym c.requires.area) ∙ sym c.has.ensures ∙ c.if-has.true in
    let placed = fits_placed config c.args.host c.args.region x c.regions-regions.ensures.sound c.requires.host c.requires.region fits in
    fit_by config c.args.host c.args.owners.now c.args.before.now.extents.now x c.args.region placed.at placed
    (subst (λ (a : Area). IsOwnedBehind a.shareable c.args.owners.now c.args.before.now.extents.now x) c.requires.area (c.is_owned_behind.ensures yes))
