use Rattle.std.proofs.Common.{◌≤◌, length}
use Rattle.script_runner.specs.shared_device.specs.ruled_cells.specs.Seats.{IsSameSeat, NoTurns, seat_number, seat_view}
use Rattle.threads_tests.specs.Tally.{IsIdle}
use Rattle.threads_tests.proofs.runs.work.Given as goal

abbrev pub invariant-loop-i : goal.invariant-loop-i
invariant-loop-i g l = record {
  same : IsSameSeat l.fn.seat l.seat;
  none : NoTurns l.seat;
  idle : IsIdle (seat_number l.seat) l.seen (seat_view l.seat);
  calls : length (seat_view l.seat).calls ≤ l.i;
}
