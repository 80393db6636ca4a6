use Rattle.std.proofs.Common.{suc, ◌∙◌}
use Rattle.dcd_base.specs.declared.steps.Stamp.{Stamp}
use Rattle.block_shard.specs.{journal_core.specs.declared.acts.Reply.Reply, ruled_cells.specs.Seats.turns_of}
use Rattle.shared_device.proofs.{Rests.rests_after, Rests.rests_again, Turns.given_again, Turns.same_twice, Visits.visited_since}
use Rattle.shared_device.proofs.shared.Shared.try_access.Goals as goal

pub invariant_of-pass : goal.invariant_of-pass
invariant_of-pass c =
    let p = c.args.pass.now in
    let took = c.in-Ok.ensures in
    let gave = c.enter.ensures in
    let bare = given_again (turns_of p.seat) (turns_of c.try_take.new.seat) (turns_of c.enter.new.seat) (suc c.target_of-target.result.index) _ p.resting took.turn.0 gave.turns in
    let done : Reply × Stamp = (c.in-Ok-enter.reply, c.in-Ok-enter.stamp) in
    let has = visited_since c.args.line c.target_of-target.result.host c.args.act.now done p.seat c.try_take.new.seat c.enter.new.seat took.seat took.view c.in-Ok-enter.ensures.visited in
    let r = rests_after c.args.line c.target_of-target.result.host c.args.act.now done p.seat c.enter.new.seat p.actor p.seen p.calls record { resting = p.resting; idle = p.idle; seen_is = p.seen_is; counted = p.counted; acts = p.acts } bare (same_twice _ _ _ took.seat gave.seat) has in
    record { resting = r.resting; idle = r.idle; seen_is = r.seen_is; counted = r.counted; acts = r.acts }

pub invariant_of-pass-in-Err-enter : goal.invariant_of-pass-in-Err-enter
invariant_of-pass-in-Err-enter c =
    let p = c.args.pass.now in
    let took = c.in-Ok.ensures in
    let gave = c.enter.ensures in
    let bare = given_again (turns_of p.seat) (turns_of c.try_take.new.seat) (turns_of c.enter.new.seat) (suc c.target_of-target.result.index) _ p.resting took.turn.0 gave.turns in
    let r = rests_again p.seat c.enter.new.seat p.actor p.seen p.calls record { resting = p.resting; idle = p.idle; seen_is = p.seen_is; counted = p.counted; acts = p.acts } bare (same_twice _ _ _ took.seat gave.seat) (c.in-Err-enter.ensures.kept ∙ took.view) in
    record { resting = r.resting; idle = r.idle; seen_is = r.seen_is; counted = r.counted; acts = r.acts }
