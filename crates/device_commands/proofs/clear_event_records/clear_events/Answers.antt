use Rattle.device_commands.proofs.ClearEventRecords.{clears}
use Rattle.device_commands.proofs.clear_event_records.clear_events.Goals as goal

pub returns-then-number-eq-DYNAMIC_CAPACITY : goal.returns-then-number-eq-DYNAMIC_CAPACITY
returns-then-number-eq-DYNAMIC_CAPACITY c = λ own of.
    clears c.args.id c.args.number own c.args.log.now c.args.all c.args.handles.now c.clear_own.result c.if-number-eq-DYNAMIC_CAPACITY.true of
    (rw (c.as_slice.ensures) at c.clear_own.ensures)
