use Rattle.std.proofs.Common.{◌≡◌, false, take}
use Rattle.extent_list.specs.ExtentLists.{has_extent_of}
use Rattle.manager_commands.proofs.initiate_dynamic_capacity_add.has_extent.Given as goal

abbrev pub invariant-loop-i : goal.invariant-loop-i
invariant-loop-i l = has_extent_of l.tag (take l.i l.extents) ≡ false
