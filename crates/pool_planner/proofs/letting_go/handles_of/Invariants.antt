use Rattle.std.proofs.Common.{◌≡◌, ◌≤◌, length, map, take}
use Rattle.event_records.specs.declared.events.Event.{Event}
use Rattle.pool_planner.proofs.letting_go.handles_of.Given as goal

abbrev pub invariant-loop-i : goal.invariant-loop-i
invariant-loop-i l = record {
  those : l.handles ≡ map (λ (e : Event). e.handle) (take l.i l.log.records);
  few : length l.handles ≤ l.i;
}
