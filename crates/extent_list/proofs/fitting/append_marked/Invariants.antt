use Rattle.std.proofs.Common.{◌≡◌, ◌++◌, map, take}
use Rattle.extent_list.specs.ExtentLists.{marked}
use Rattle.extent_list.proofs.fitting.append_marked.Given as goal

abbrev pub invariant-loop-extent : goal.invariant-loop-extent
invariant-loop-extent l = l.out ≡ l.fn.out ++ map (marked l.owners) (take l.extent-index l.list)
