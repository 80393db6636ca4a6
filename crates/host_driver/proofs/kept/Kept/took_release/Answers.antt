use Rattle.std.proofs.Common.{ap, arith, length, ◌∙◌}
use Rattle.host_driver.{specs.Driving.Driven, specs.Driving.gone_on, specs.Driving.request_ended, proofs.Going.room_behind_request}
use Rattle.host_driver.proofs.kept.Kept.took_release.Goals as goal

pub end_request-requires-clause-room : goal.end_request-requires-clause-room
end_request-requires-clause-room c =
    omega (arith, ap (λ (d : Driven). length d.asked) c.reserve.ensures.same, c.in_ok-reserve.ensures.room.table, c.asked_count-asked.ensures.count)

pub go_on-requires : goal.go_on-requires
go_on-requires c =
    room_behind_request c.args.is_done c.left-left.result c.asked_count-asked.result c.args.self.now c.reserve.new.self c.end_request.new.self c.in_ok-fresh.fresh c.reserve.ensures.same c.left-left.ensures.left
    c.asked_count-asked.ensures.count c.in_ok-reserve.ensures.room c.in_ok-fresh.ensures.room c.end_request.ensures.ended c.end_request.ensures.table c.end_request.ensures.offered c.end_request.ensures.asked

pub returns-clause-taken : goal.returns-clause-taken
returns-clause-taken c = c.go_on.ensures ∙ ap gone_on (c.end_request.ensures.ended ∙ ap (request_ended c.args.is_done) c.reserve.ensures.same)
