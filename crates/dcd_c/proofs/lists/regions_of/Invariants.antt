use Rattle.std.proofs.Common.{◌≡◌, drop, length, map, take}
use Rattle.dcd_c.specs.Lists.{region_told}
use Rattle.dcd_c.proofs.lists.regions_of.Given as goal

abbrev pub invariant-loop-i : goal.invariant-loop-i
invariant-loop-i l = record {
  put : take l.i l.room ≡ map region_told (take l.i l.config.regions);
  rest : drop l.i l.room ≡ drop l.i l.fn.room;
  size : length l.room ≡ length l.fn.room;
}
