use Rattle.std.proofs.Common.{◌≡◌}
use Rattle.ruled_cells.specs.Turning.{IsSameButTries}
use Rattle.ruled_cells.proofs.turns.steps.take.Given as goal

abbrev pub invariant-loop : goal.invariant-loop
invariant-loop g l = record {
  can : (goal.iterator-loop g).can_next l.iterator';
  finite : (goal.iterator-loop g).is_finite l.iterator';
  board : (l.seat.table_id ≡ l.fn.seat.table_id) × (l.seat.id ≡ l.fn.seat.id);
  same : IsSameButTries l.fn.seat.me l.seat.me;
}
