use Rattle.std.proofs.Common.{◌≡◌, ◌≤◌, length}
use Rattle.ruled_cells.specs.{Reads.about_of, Turning.NoTurn, Making.IsMaker, Making.IsFilling}
use Rattle.ruled_cells.proofs.making.fill.Given as goal

abbrev pub invariant-loop-value : goal.invariant-loop-value
invariant-loop-value g l = record {
  board : (l.token.table_id ≡ l.fn.token.table_id) × (l.token.id ≡ l.fn.token.id);
  maker : IsMaker l.shelf.key.seats 1 (about_of g.F.Chief.reads l.shelf.key.first) l.token.me;
  filling : IsFilling l.rest.items l.token.me;
  free : NoTurn l.token.me.0.taken 0;
  short : length l.rest.items ≤ length l.fn.rest.items;
}

abbrev pub decreases-loop-value : goal.decreases-loop-value
decreases-loop-value g l = goal.left-loop-value g l
