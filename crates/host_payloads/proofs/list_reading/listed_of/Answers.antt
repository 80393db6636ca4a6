use Rattle.std.proofs.Common.{arith}
use Rattle.host_payloads.specs.HostPayloads.{listed_extent}
use Rattle.event_records.specs.dcd_base.proofs.Pieces.{pieces-goes_on}
use Rattle.host_payloads.proofs.list_reading.listed_of.Goals as goal

pub loop-preserved : goal.loop-preserved
loop-preserved c = record {
  enough = omega (arith, c.loop.invariant.enough, c.split_at.ensures.back_len);
  read = rw (c.in_ok-push.ensures.pushed, c.listed_extent.ensures, c.split_at.ensures.front, c.split_at.ensures.back) (pieces-goes_on listed_extent 24 c.args.count c.loop.counter c.loop.extents c.loop.rest.now _ c.loop-test.true c.loop.invariant.read);
}
