use Rattle.std.proofs.Common.{◌≡◌}
use Rattle.host_lists.specs.Tags.{capped, extents_before, tag_count}
use Rattle.host_lists.proofs.tag_counts.all_tags.Given as goal

abbrev pub invariant-loop-i : goal.invariant-loop-i
invariant-loop-i l = l.tags ≡ capped (tag_count (extents_before l.accepted l.offers l.i))
