use Rattle.std.proofs.Common.{◌≡◌, ◌+◌, ◌++◌, drop, length, map, take}
use Rattle.dcd_c.specs.Lists.{extent_told}
use Rattle.dcd_c.proofs.lists.put_extents.Given as goal

abbrev pub invariant-loop-i : goal.invariant-loop-i
invariant-loop-i l = record {
  put : take (l.at + l.i) l.room ≡ take l.at l.fn.room ++ map (extent_told l.offer) (take l.i l.extents);
  rest : drop (l.at + l.i) l.room ≡ drop (l.at + l.i) l.fn.room;
  size : length l.room ≡ length l.fn.room;
}
