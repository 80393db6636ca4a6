use Rattle.std.proofs.Common.{◌≡◌, None, take}
use Rattle.extent_list.{specs.ExtentLists.tags_of, specs.Listing.too_few_of, proofs.EachTag.over}
use Rattle.extent_list.proofs.tag_rules.some_left.Given as goal

abbrev pub invariant-loop-i : goal.invariant-loop-i
invariant-loop-i l = over (too_few_of l.owners l.shared) (tags_of (take l.i l.shared)) ≡ None
