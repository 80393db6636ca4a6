use Rattle.std.proofs.Common.{false, []}
use Rattle.event_records.specs.declared.events.EventKind.{EventKind}
use Rattle.host_driver.proofs.Going.{goes_on}
use Rattle.host_driver.proofs.kept.Kept.go_on.Goals as goal

pub loop-self-preserved : goal.loop-self-preserved
loop-self-preserved c =
    let both = goes_on c.loop-self.self c.note.new.self c.as_slice.result.now c.len.result
    (record {
      handle = 0;
      kind = EventKind.Add;
      host = 0;
      region = 0;
      more = false;
      extent = record { start = 0; length = 0; tag = record { 0 = [] }; sequence = 0 };
      extents_available = 0;
      tags_available = 0;
    })
    c.due_behind.result _ c.as_slice.ensures c.len.ensures c.loop-self-test.true c.loop-self.invariant.room c.loop-self.invariant.ahead
    c.note.ensures.noted c.note.ensures.room c.note.ensures.page c.note.ensures.at c.due_behind.ensures c.in_default.is in
    record { room = both.0; ahead = both.1 }
