use Rattle.std.proofs.Common.{◌≡◌, ◌<◌, ◌≤◌, ℕ, suc, length, true, false, Some, vec_capacity}
use Rattle.std.specs.Prelude.{slice_index_or}
use mathlib.Core.Option.{some}
use lib.ListN.{get_elem?}
use Rattle.core.specs.Mem.Slots.{slots_items, slots_len, slots_filled}
use Rattle.ruled_cells.specs.declared.cell_value.CellValue.TheVariants.{Rest}
use Rattle.ruled_cells.proofs.closing.unpack.Given as goal

abbrev pub invariant-loop-i : goal.invariant-loop-i
invariant-loop-i g l = record {
  items : slots_items l.closed.slots ≡ slots_items l.fn.closed.slots;
  len : slots_len l.closed.slots ≡ slots_len l.fn.closed.slots;
  taken : (k : ℕ) → k ≤ l.i → slice_index_or (slots_filled l.closed.slots) k false ≡ false;
  left : (k : ℕ) → l.i < k → k < slots_len l.closed.slots → slice_index_or (slots_filled l.closed.slots) k false ≡ true;
  count : length l.row.items ≡ l.i;
  each : (k : ℕ) (x : g.row.S.Denot) → get_elem? l.row.items k ≡ some x → get_elem? (slots_items l.fn.closed.slots) (suc k) ≡ some (Some (Rest x));
  room : vec_capacity l.row ≡ vec_capacity l.fn.row;
}
