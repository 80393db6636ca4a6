use Rattle.std.proofs.Common.{◌≡◌, ◌/◌, ◌<◌, ◌∙◌, Some, length, ap, arith}
use Rattle.extent_list.specs.media_map.specs.region_config.specs.Granules.{region_granules}
use Rattle.device_state.{specs.Granules.flags_of, proofs.RegionFound.found_in, proofs.RegionFound.is_region}
use Rattle.device_state.proofs.regions.LastRegion.look_for.Goals as goal

pub returns-then-from-end-clause-last : goal.returns-then-from-end-clause-last
returns-then-from-end-clause-last c =
    let known : c.loop-number.number < length c.args.config.now.regions = rw c.regions-number-end.ensures.value at c.loop-number-test.true in
    let many : c.region-region.result.length / c.granule_size.result ≡ region_granules c.args.config.now c.loop-number.number =
    λ i. (c.region-region.ensures.value i).length / c.granule_size.ensures.value i in
    is_region c.args.config.now c.loop-number.number _ known c.loop-number.invariant.end (omega (arith, c.loop-number.invariant.end, many)) (ap flags_of c.region-region.ensures.value)

pub returns-then-from-end-clause-found : goal.returns-then-from-end-clause-found
returns-then-from-end-clause-found c =
    let known : c.loop-number.number < length c.args.config.now.regions = rw c.regions-number-end.ensures.value at c.loop-number-test.true in
    let many : c.region-region.result.length / c.granule_size.result ≡ region_granules c.args.config.now c.loop-number.number =
    λ i. (c.region-region.ensures.value i).length / c.granule_size.ensures.value i in
    ap (λ r. Some (flags_of r)) c.region-region.ensures.value
    ∙ found_in c.args.config.now c.args.granule c.loop-number.number known
    (omega (arith, c.loop-number.invariant.end, c.loop-number.invariant.behind))
    (omega (arith, c.loop-number.invariant.end, many, c.granule.view_is, c.from.ensures, c.if-from-end.true))

pub returns-clause-last : goal.returns-clause-last
returns-clause-last c = c.loop-number.invariant.last
