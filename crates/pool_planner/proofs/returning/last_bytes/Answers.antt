use Rattle.std.proofs.Common.{◌-◌, length}
use Rattle.pool_planner.proofs.LastBytes.{goes_on_done}
use Rattle.pool_planner.proofs.returning.last_bytes.Goals as goal

pub returns-then-left-eq0-clause-those : goal.returns-then-left-eq0-clause-those
returns-then-left-eq0-clause-those c =
    goes_on_done c.args.bytes c.loop-i.left (length c.args.extents.now - c.loop-i.i) c.args.extents.now c.loop-i.list c.if-left-eq0.true c.loop-i.invariant.goes_on
