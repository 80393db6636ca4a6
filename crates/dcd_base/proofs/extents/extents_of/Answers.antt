use Rattle.std.proofs.Common.{arith}
use Rattle.dcd_base.{specs.Extents.whole_extent, proofs.Pieces.pieces-goes_on}
use Rattle.dcd_base.proofs.extents.extents_of.Goals as goal

pub loop-preserved : goal.loop-preserved
loop-preserved c = record {
  enough = omega (arith, c.loop.invariant.enough, c.split_at.ensures.back_len);
  read = rw (c.in_ok-push.ensures.pushed, c.whole_extent.ensures, c.split_at.ensures.front, c.split_at.ensures.back) (pieces-goes_on whole_extent 40 c.args.count c.loop.counter c.loop.extents c.loop.rest.now _ c.loop-test.true c.loop.invariant.read);
}
