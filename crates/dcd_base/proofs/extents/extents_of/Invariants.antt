use Rattle.std.proofs.Common.{◌≡◌, ◌++◌, ◌*◌, ◌-◌, ◌≤◌, length, map}
use Rattle.dcd_base.specs.{Layouts.pieces, Extents.whole_extent}
use Rattle.dcd_base.proofs.extents.extents_of.Given as goal

abbrev pub invariant-loop : goal.invariant-loop
invariant-loop l = record {
  enough : 40 * (l.count - l.counter) ≤ length l.rest;
  read : l.extents ++ map whole_extent (pieces 40 (l.count - l.counter) l.rest) ≡ map whole_extent (pieces 40 l.count l.bytes);
}
