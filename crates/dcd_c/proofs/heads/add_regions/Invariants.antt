use Rattle.std.proofs.Common.{◌≡◌, ◌++◌, take, flat_map}
use Rattle.dcd_c.specs.Opening.{region_spelled}
use Rattle.dcd_c.proofs.heads.add_regions.Given as goal

abbrev pub invariant-loop-i : goal.invariant-loop-i
invariant-loop-i l = l.out ≡ l.fn.out ++ flat_map region_spelled (take l.i l.regions)
