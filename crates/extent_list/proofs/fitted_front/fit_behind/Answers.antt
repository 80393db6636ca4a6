use Rattle.std.proofs.Common.{◌≡◌, None, subst, sym, get_or}
use Rattle.extent_list.{specs.Fitting.Fits, specs.Listing.overlapping, proofs.FirstOwner.no_extent, proofs.FitFront.fits_more}
use Rattle.extent_list.proofs.fitted_front.fit_behind.Goals as goal

pub fits_behind-requires-clause-apart : goal.fits_behind-requires-clause-apart
fits_behind-requires-clause-apart c = λ yes.
    subst (λ before. overlapping before (get_or c.args.list.now c.loop-i.i no_extent) ≡ None) (sym c.split_at.ensures.front) (c.are_apart-apart.ensures.apart yes c.loop-i.i no_extent c.loop-i-test.true)

pub loop-i-preserved : goal.loop-i-preserved
loop-i-preserved c =
    fits_more c.args.config.now c.args.host c.args.owners.now c.args.list.now c.loop-i.i c.loop-i-test.true
    (subst (λ before. Fits c.args.config.now c.args.host c.args.owners.now before (get_or c.args.list.now c.loop-i.i no_extent)) c.split_at.ensures.front (c.fits_behind.ensures c.if-not-fits_behind.false)) c.loop-i.invariant
