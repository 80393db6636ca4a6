use Rattle.std.proofs.Common.{◌≡◌, ◌++◌, take, flat_map}
use Rattle.dcd_base.specs.Layouts.{u64_bytes}
use Rattle.dcd_c.proofs.heads.add_bases.Given as goal

abbrev pub invariant-loop-i : goal.invariant-loop-i
invariant-loop-i l = l.out ≡ l.fn.out ++ flat_map u64_bytes (take l.i l.bases)
