use Rattle.std.proofs.Common.{◌≡◌, ◌⊎◌, ◌<◌, ℕ, length}
use mathlib.Core.Option.{some}
use lib.ListN.{get_elem?}
use Rattle.ruled_cells.specs.{declared.seat.Seat.Seat, Calls.IsOf, Seats.NoTurns, Seats.seat_number, Seats.seat_view, Making.IsGathered}
use Rattle.ruled_cells.proofs.closing.gather.Given as goal

abbrev pub invariant-loop-other : goal.invariant-loop-other
invariant-loop-other g l = record {
  of : IsOf l.cells l.main × NoTurns l.main;
  front : (k : ℕ) (s : Seat g.row.F.Denot g.row.S.Denot) → get_elem? l.seats.items k ≡ some s → get_elem? l.fn.seats.items k ≡ some s;
  each : (k : ℕ) (s : Seat g.row.F.Denot g.row.S.Denot) → get_elem? l.fn.seats.items k ≡ some s → (k < length l.seats.items) ⊎ IsGathered l.main.token.me (seat_number s) (seat_view s);
}

abbrev pub decreases-loop-other : goal.decreases-loop-other
decreases-loop-other g l = goal.left-loop-other g l
