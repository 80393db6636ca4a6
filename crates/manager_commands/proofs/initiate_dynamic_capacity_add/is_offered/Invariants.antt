use Rattle.std.{proofs.Common.◌≡◌, proofs.Common.false, proofs.Common.take, specs.List.list_any}
use Rattle.extent_list.specs.ExtentLists.{has_extent_of}
use Rattle.manager_commands.proofs.initiate_dynamic_capacity_add.is_offered.Given as goal

abbrev pub invariant-loop-i : goal.invariant-loop-i
invariant-loop-i l = list_any (has_extent_of l.tag) (take l.i l.lists.offers) ≡ false
