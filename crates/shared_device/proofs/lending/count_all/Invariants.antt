use Rattle.std.specs.Prelude.{◌≡◌, ◌*◌, ◌^◌, ◌≤◌, flat_map, length, take}
use Rattle.shared_device.proofs.lending.count_all.Given as goal

abbrev pub invariant-loop-list : goal.invariant-loop-list
invariant-loop-list l = record {
  count : l.count ≡ length (flat_map (λ entries. entries) (take l.list-index l.lists));
  few : l.count ≤ l.list-index * 2 ^ 58;
}
