use Rattle.std.proofs.Common.{◌-◌, ◌≤◌, length}
use Rattle.pool_planner.proofs.LastBytes.{GoesOn}
use Rattle.pool_planner.proofs.returning.last_bytes.Given as goal

abbrev pub invariant-loop-i : goal.invariant-loop-i
invariant-loop-i l = record {
  goes_on : GoesOn l.bytes l.left (length l.extents - l.i) l.extents l.list;
  few : length l.list ≤ l.i;
}
