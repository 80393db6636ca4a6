use Rattle.std.proofs.Common.{◌≡◌, ◌++◌, List, take}
use Rattle.extent_list.specs.dcd_codes.specs.dcd_base.specs.declared.capacity.Extent.{Extent}
use Rattle.host_lists.specs.Tags.{tag_count}
use Rattle.host_lists.proofs.tag_counts.untagged.Given as goal

abbrev pub invariant-loop-i : goal.invariant-loop-i
invariant-loop-i l = (before : List Extent) → tag_count (before ++ take l.i l.extents) ≡ tag_count before
