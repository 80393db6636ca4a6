use Rattle.std.proofs.Common.{◌≡◌, ◌<◌, length, sym, arith}
use Rattle.region_config.proofs.GranuleLemmas.{region_is}
use Rattle.region_config.proofs.configuration.Config.region_of.Goals as goal

pub returns-then-granule-end-clause-value : goal.returns-then-granule-end-clause-value
returns-then-granule-end-clause-value c =
    let granule : c.granule.inside.0 ≡ c.args.granule = c.granule.view_is in
    let known : c.loop-region.region < length c.args.self.now.regions = rw c.regions-region-end.ensures.value at c.loop-region-test.true in
    sym (region_is c.args.self.now c.args.granule c.loop-region.region known
    (omega (arith, c.loop-region.invariant.0, c.loop-region.invariant.1))
    (omega (arith, granule, c.loop-region.invariant.0, c.granule_count-end.ensures.value, c.if-granule-end.true)))
