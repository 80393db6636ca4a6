use Rattle.std.proofs.Common.{◌+◌, ◌++◌, ◌%◌, ◌^◌, List, arith, ap, length, map, sym, take, ◌∙◌}
use Rattle.std.proofs.lemmas.List.{length-append, length-map}
use Rattle.dcd_base.specs.declared.capacity.Extent.{Extent}
use Rattle.device_plain.specs.device_state.specs.StateAfter.{part_of}
use Rattle.dcd_c.proofs.{Filling.drop_on, OfferSteps.offer_kept, OfferSteps.offers_kept, OfferSteps.offers_number, OfferSteps.offers_room, OfferSteps.told_more}
use Rattle.dcd_c.specs.Lists.{extent_told, offers_from}
use Rattle.dcd_c.proofs.lists.put_offers.Goals as goal

pub offer-extents-requires-clause-index : goal.offer-extents-requires-clause-index
offer-extents-requires-clause-index c =
    let number = offers_number c.args.device.now c.first_config-sound.ensures.alive c.control-kept.result.now c.control-kept.ensures.config c.control-kept.ensures.pasts c.args.host c.requires c.offers-i-end.result c.offers-i-end.ensures in
    omega (arith, number, c.loop-i-test.true)

pub put_extents-requires : goal.put_extents-requires
put_extents-requires c =
    let offers = (part_of c.control-kept.result.now.state c.args.host).lists.offers in
    let d = c.args.device.now in
    let alive = c.first_config-sound.ensures.alive in
    let xs = c.offer-extents.result.now in
    let is = offer_kept d alive c.control-kept.result.now c.control-kept.ensures.config c.control-kept.ensures.pasts c.args.host c.requires c.loop-i.i xs c.offer-extents.ensures in
    let all = c.offered_count-count.ensures alive.life alive.leads
    ∙ ap (λ (os : List (List Extent)). length (offers_from 0 os)) (sym (offers_kept d alive c.control-kept.result.now c.control-kept.ensures.config c.control-kept.ensures.pasts c.args.host c.requires alive.life alive.leads)) in
    omega (arith, c.loop-i.invariant.count, c.loop-i.invariant.size, offers_room offers c.loop-i.i xs is, all, c.if-count-room.false)

pub loop-i-preserved : goal.loop-i-preserved
loop-i-preserved c =
    let offers = (part_of c.control-kept.result.now.state c.args.host).lists.offers in
    let xs = c.offer-extents.result.now in
    let i = c.loop-i.i in
    let is = offer_kept c.args.device.now c.first_config-sound.ensures.alive c.control-kept.result.now c.control-kept.ensures.config c.control-kept.ensures.pasts c.args.host c.requires i xs c.offer-extents.ensures in
    let more = told_more offers i xs is in
    record {
      count = (λ j. c.loop-i.invariant.count j + length xs) ∙ ap (λ n. length (offers_from 0 (take i offers)) + n) (sym (length-map xs (extent_told (i % 2 ^ 16)))) ∙ sym (length-append (offers_from 0 (take i offers)) (map (extent_told (i % 2 ^ 16)) xs)) ∙ ap length (sym more);
      put = c.put_extents.ensures.put ∙ (λ j. c.loop-i.invariant.put j ++ map (extent_told (i % 2 ^ 16)) xs) ∙ sym more;
      rest = c.put_extents.ensures.rest ∙ drop_on c.loop-i.room c.args.room.now c.loop-i.at (length xs) c.loop-i.invariant.rest;
      size = c.put_extents.ensures.size ∙ c.loop-i.invariant.size;
    }
