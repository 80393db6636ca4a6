use Rattle.std.{proofs.Common.◌≡◌, proofs.Common.false, proofs.Common.take, specs.List.list_any}
use Rattle.extent_list.specs.ExtentLists.{has_extent_of}
use Rattle.host_lists.proofs.tag_counts.has_in_offers.Given as goal

abbrev pub invariant-loop-i : goal.invariant-loop-i
invariant-loop-i l = list_any (has_extent_of l.tag) (take l.i l.offers) ≡ false
