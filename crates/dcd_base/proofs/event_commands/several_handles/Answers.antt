use Rattle.std.{proofs.Common.arith, specs.Int.from_le_bytes, specs.Int.w16}
use Rattle.dcd_base.proofs.Pieces.{pieces-goes_on}
use Rattle.dcd_base.proofs.event_commands.several_handles.Goals as goal

pub loop-preserved : goal.loop-preserved
loop-preserved c = record {
  enough = omega (arith, c.loop.invariant.enough, c.split_at.ensures.back_len);
  read = rw (c.in_ok-push.ensures.pushed, c.u16_at.ensures, c.split_at.ensures.front, c.split_at.ensures.back) (pieces-goes_on (from_le_bytes w16) 2 c.args.count c.loop.counter c.loop.handles c.loop.rest.now _ c.loop-test.true c.loop.invariant.read);
}
