use Rattle.std.proofs.Common.{◌+◌, List, arith, length, sum_by, ap, sym, ◌∙◌, take_all}
use Rattle.dcd_base.specs.declared.capacity.Extent.{Extent}
use Rattle.device_plain.specs.device_state.specs.StateAfter.{part_of}
use Rattle.dcd_c.proofs.OfferSteps.{few_offered, offer_kept, offers_count, offers_kept, offers_number, sum_front, sum_more}
use Rattle.dcd_c.specs.Lists.{offers_from}
use Rattle.dcd_c.proofs.lists.offered_count.Goals as goal

pub offer-extents-requires-clause-index : goal.offer-extents-requires-clause-index
offer-extents-requires-clause-index c =
    let number = offers_number c.args.device.now c.first_config-sound.ensures.alive c.control-kept.result.now c.control-kept.ensures.config c.control-kept.ensures.pasts c.args.host c.requires c.offers-i-end.result c.offers-i-end.ensures in
    omega (arith, number, c.loop-i-test.true)

pub loop-i-preserved : goal.loop-i-preserved
loop-i-preserved c =
    let offers = (part_of c.control-kept.result.now.state c.args.host).lists.offers in
    let d = c.args.device.now in
    let alive = c.first_config-sound.ensures.alive in
    let is = offer_kept d alive c.control-kept.result.now c.control-kept.ensures.config c.control-kept.ensures.pasts c.args.host c.requires c.loop-i.i c.offer-extents.result.now c.offer-extents.ensures in
    let few = few_offered d alive c.control-kept.result.now c.control-kept.ensures.config c.control-kept.ensures.pasts c.args.host c.requires in
    omega (arith, few, sum_front offers (c.loop-i.i + 1), sum_more offers c.loop-i.i c.offer-extents.result.now is, c.loop-i.invariant)

pub returns : goal.returns
returns c = λ life leads.
    let offers = (part_of c.control-kept.result.now.state c.args.host).lists.offers in
    let d = c.args.device.now in
    let alive = c.first_config-sound.ensures.alive in
    let number = offers_number d alive c.control-kept.result.now c.control-kept.ensures.config c.control-kept.ensures.pasts c.args.host c.requires c.offers-i-end.result c.offers-i-end.ensures in
    c.loop-i.invariant
    ∙ ap (sum_by (λ (xs : List Extent). length xs)) (take_all c.loop-i.i offers (omega (arith, number, c.loop-i-test.false)))
    ∙ sym (offers_count 0 offers)
    ∙ ap (λ (os : List (List Extent)). length (offers_from 0 os)) (offers_kept d alive c.control-kept.result.now c.control-kept.ensures.config c.control-kept.ensures.pasts c.args.host c.requires life leads)
