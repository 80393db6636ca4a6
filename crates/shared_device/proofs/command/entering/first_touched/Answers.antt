use Rattle.std.proofs.Common.{arith, false}
use Rattle.shared_device.proofs.EnteringSteps.{apart_more, told_touch}
use Rattle.shared_device.proofs.command.entering.first_touched.Goals as goal

pub loop-at-preserved : goal.loop-at-preserved
loop-at-preserved c =
    let inv = c.loop-at.invariant in
    let less = c.loop-at-test.true in
    let touch = told_touch c.loop-at.at c.args.plan.now.entry c.entry.result.now c.touches.result false c.entry.ensures c.touches.ensures c.if-touches.false in
    record {
      from = omega (arith, inv.from);
      until = omega (arith, less);
      apart = apart_more c.args.index c.loop-at.at c.args.plan.now.entry inv.apart touch;
    }

pub returns-clause-apart : goal.returns-clause-apart
returns-clause-apart c =
    let inv = c.loop-at.invariant in
    let past = c.loop-at-test.false in
    λ k from lt. inv.apart k from (omega (arith, lt, past))
