use Rattle.std.proofs.Common.{◌≡◌, ◌≤◌, drop, length}
use Rattle.event_log.specs.LogStates.{clear_fault}
use Rattle.event_log.proofs.logs.EventLog.clear_fault.Given as goal

abbrev pub invariant-loop-i : goal.invariant-loop-i
invariant-loop-i l = record {
  rest : clear_fault (drop l.i l.handles) (drop l.i l.self.records) ≡ clear_fault l.handles l.self.records;
  within : l.i ≤ length l.self.records;
}
