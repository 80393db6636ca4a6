use Rattle.std.proofs.Common.{◌≡◌, true, sym, ap, ◌∙◌, arith, rules, subst, ◌≤◌, ◌<◌, ◌-◌, ◌+◌, length, get_or, List}
use Rattle.dcd_base.specs.declared.capacity.Extent.{Extent}
use Rattle.extent_list.{proofs.FirstOwner.no_extent, proofs.FitFront.falls_more, proofs.FitFront.fits_placed, proofs.FitFront.front_fits, specs.Apart.StandApart}
use Rattle.extent_list.specs.{Fitting.IsOwned, Fitting.area_of, Fitting.fits_area, declared.placing.Area.Area}
use Rattle.media_map.specs.region_config.specs.Granules.{region_spec}
use Rattle.extent_list.proofs.lookup.Owners.fit_falling.Goals as goal

pub loop-i-preserved : goal.loop-i-preserved
loop-i-preserved c =
    let config = c.args.config.now in
    let owners = c.args.self.now in
    let list = c.args.list.now in
    let i = c.loop-i.i in
    let listed : i < length list = search rules in
    let area : c.args.area.now ≡ area_of config c.args.host c.args.region = c.requires.area in
    let x = get_or list i no_extent in
    let fits : fits_area (area_of config c.args.host c.args.region) x ≡ true = ap (λ (a : Area). fits_area a x) (sym area) ∙ c.fits.ensures.placed c.if-not-fits.false in
    let owned : IsOwned (region_spec config c.args.region).shareable (get_or owners (c.args.place - i) no_extent) x =
    subst (λ (xs : List Extent). IsOwned (region_spec config c.args.region).shareable (get_or xs (c.args.place - i) no_extent) x) c.self.view_is
    (subst (λ (a : Area). IsOwned a.shareable (get_or c.self.inside.list.now (c.args.place - i) no_extent) x) area (c.fits.ensures.owned c.if-not-fits.false)) in
    falls_more config c.args.host c.args.region c.args.place owners list i listed c.requires.place
    (record { placed = fits_placed config c.args.host c.args.region x c.regions-regions.ensures.sound c.requires.host c.requires.region fits; owned = owned }) c.loop-i.invariant

pub returns-then-not-fits-clause-fit : goal.returns-then-not-fits-clause-fit
returns-then-not-fits-clause-fit c =
    let i = c.loop-i.i in
    let few : i ≤ c.args.place + 1 = search rules in
    let listed : i ≤ length c.args.list.now = search rules in
    front_fits c.args.config.now c.args.host c.args.region c.args.place c.args.self.now c.args.list.now (subst StandApart c.self.view_is (c.self.invariant c.if-not-self.false)) c.requires.place i few listed c.loop-i.invariant

pub returns-clause-fit : goal.returns-clause-fit
returns-clause-fit c =
    let n = c.min-most.result in
    let few : n ≤ c.args.place + 1 = search rules in
    let listed : n ≤ length c.args.list.now = search rules in
    front_fits c.args.config.now c.args.host c.args.region c.args.place c.args.self.now c.args.list.now (subst StandApart c.self.view_is (c.self.invariant c.if-not-self.false)) c.requires.place n few listed
    (λ k d below. c.loop-i.invariant k d (omega (arith, below, c.loop-i-test.false)))
