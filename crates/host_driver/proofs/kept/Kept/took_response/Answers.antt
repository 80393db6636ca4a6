use Rattle.std.proofs.Common.{ap, arith, length, ◌∙◌}
use Rattle.host_driver.{specs.Driving.Driven, specs.Driving.gone_on, specs.Driving.offer_ended, proofs.Going.room_behind_offer}
use Rattle.host_driver.proofs.kept.Kept.took_response.Goals as goal

pub end_offer-requires-clause-room : goal.end_offer-requires-clause-room
end_offer-requires-clause-room c =
    omega (arith, ap (λ (d : Driven). length d.offered) c.reserve.ensures.same, c.in_ok-reserve.ensures.room.table, c.offered_count-offered.ensures.count)

pub go_on-requires : goal.go_on-requires
go_on-requires c =
    room_behind_offer c.args.most c.left-left.result c.offered_count-offered.result c.args.self.now c.reserve.new.self c.end_offer.new.self c.in_ok-fresh.fresh c.reserve.ensures.same c.left-left.ensures.left
    c.offered_count-offered.ensures.count c.in_ok-reserve.ensures.room c.in_ok-fresh.ensures.room c.end_offer.ensures.ended c.end_offer.ensures.table c.end_offer.ensures.offered c.end_offer.ensures.asked

pub returns-clause-taken : goal.returns-clause-taken
returns-clause-taken c = c.go_on.ensures ∙ ap gone_on (c.end_offer.ensures.ended ∙ ap (offer_ended c.args.most) c.reserve.ensures.same)
