use Rattle.std.proofs.Common.{rules}
use Rattle.host_lists.proofs.TagCounting.{no_extent, untagged_more}
use Rattle.host_lists.proofs.tag_counts.untagged.Goals as goal

pub loop-i-preserved : goal.loop-i-preserved
loop-i-preserved c = λ before. untagged_more before c.args.extents.now c.loop-i.i no_extent c.loop-i-test.true (search rules) (c.loop-i.invariant before)
