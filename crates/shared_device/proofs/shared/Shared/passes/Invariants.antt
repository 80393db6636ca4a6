use Rattle.std.proofs.Common.{◌≡◌, ℕ, ◌+◌, ◌≤◌, length, vec_capacity}
use mathlib.Core.Option.{some}
use lib.ListN.{get_elem?}
use Rattle.block_shard.specs.ruled_cells.specs.Calls.{AreNew}
use Rattle.shared_device.specs.{declared.pass.Pass.Pass, Passing.IsNewPass}
use Rattle.shared_device.proofs.shared.Shared.passes.Given as goal

abbrev pub invariant-loop-seat : goal.invariant-loop-seat
invariant-loop-seat l = record {
  left : AreNew l.self.cells (record { config = l.self.config; actors = l.actors }) l.seats.items;
  count : length l.seats.items + length l.passes.items ≡ length l.actors;
  each : (k : ℕ) (p : Pass) → get_elem? l.passes.items k ≡ some p → IsNewPass l.self l.actors (length l.seats.items + k) p;
  room : length l.actors ≤ vec_capacity l.passes;
}

abbrev pub decreases-loop-seat : goal.decreases-loop-seat
decreases-loop-seat l = goal.left-loop-seat l
