use Rattle.std.proofs.Common.{◌≡◌, ◌≤◌, ◌-◌, ◌+◌, ◌<◌, ℕ, suc, length, vec_capacity}
use mathlib.Core.Option.{some}
use lib.ListN.{get_elem?}
use Rattle.ruled_cells.specs.{Reads.about_of, declared.seat.Seat.Seat, Calls.IsNew, Calls.seats_of, Making.IsMaker}
use Rattle.ruled_cells.proofs.making.enroll_all.Given as goal

abbrev pub invariant-loop-made : goal.invariant-loop-made
invariant-loop-made g l = record {
  board : (l.token.table_id ≡ l.fn.token.table_id) × (l.token.id ≡ l.fn.token.id);
  low : (0 < l.made) × (l.made ≤ l.seats);
  maker : IsMaker (seats_of l.cells) l.made (about_of g.F.Chief.reads l.cells.table.shared.key.first) l.token.me;
  taken : l.token.me.0.taken ≡ l.fn.token.me.0.taken;
  count : length l.others.items + 1 ≡ l.made;
  room : vec_capacity l.others ≡ vec_capacity l.fn.others;
  each : (k : ℕ) (s : Seat g.row.F.Denot g.row.S.Denot) → get_elem? l.others.items k ≡ some s → IsNew l.cells (about_of g.F.Chief.reads l.cells.table.shared.key.first) (suc k) s;
}

abbrev pub decreases-loop-made : goal.decreases-loop-made
decreases-loop-made g l = l.seats - l.made
