use Rattle.std.specs.{Prelude.◌≡◌, Prelude.◌++◌, Prelude.map, Prelude.vec_capacity, Vec.Iter.into_iter_items}
use Rattle.shared_device.proofs.close.accesses_in.Given as goal

abbrev pub invariant-loop-cell : goal.invariant-loop-cell
invariant-loop-cell l = record {
  accesses : l.accesses.items ≡ map (λ s. s.entries) l.yielded;
  row : l.fn.row.items ≡ l.yielded ++ into_iter_items l.cell-iterator;
  room : vec_capacity l.accesses ≡ vec_capacity l.fn.accesses;
}
