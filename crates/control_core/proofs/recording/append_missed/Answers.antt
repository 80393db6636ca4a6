use Rattle.std.proofs.Common.{◌++◌, ◌+◌, List, ap, arith, drop, ◌∙◌}
use Rattle.journal_core.specs.declared.outcome.Effect.{Effect}
use Rattle.control_core.{specs.Recording.records_by, proofs.Recorded.missed_more, proofs.Recorded.no_event}
use Rattle.control_core.proofs.recording.append_missed.Goals as goal

pub loop-preserved : goal.loop-preserved
loop-preserved c = record {
  told = λ next.
      ap (λ (es : List Effect). es ++ records_by c.args.id.now next 0 (drop (c.loop.counter + 1) c.args.events.now)) c.push_reserved.ensures.items
      ∙ missed_more c.args.id.now c.loop.items.items c.args.events.now c.loop.counter next no_event c.loop-test.true
      ∙ c.loop.invariant.told next;
  room = omega (arith, c.loop.invariant.room, c.push_reserved.ensures.len, c.push_reserved.ensures.capacity, c.loop-test.true);
}
