use Rattle.std.proofs.Common.{◌≡◌, ◌-◌, drop, length, take}
use Rattle.extent_list.specs.ExtentLists.{cut_all}
use Rattle.extent_list.proofs.list.whole_at_back.Given as goal

abbrev pub invariant-loop-i : goal.invariant-loop-i
invariant-loop-i l = cut_all l.leaving l.kept ≡ cut_all (drop l.i l.leaving) (take (length l.kept - l.i) l.kept)
