use Rattle.std.proofs.Common.{◌+◌, ◌<◌, ◌∙◌, List, length, set, ap, rules}
use Rattle.granule_map.proofs.PartsReplaced.{replaced_more}
use Rattle.dcd_base.specs.declared.capacity.Tag.{Tag}
use Rattle.granule_map.proofs.replacing.fill_tags.Goals as goal

pub loop-i-preserved : goal.loop-i-preserved
loop-i-preserved c =
    let first = c.run.inside.0.0.0 in
    let i = c.loop-i.i in
    let tags = c.args.tags.now in
    let within : first + i < length tags = search rules in
    ap (λ (ts : List Tag). set ts (first + i) c.args.tag.now) c.loop-i.invariant ∙ replaced_more tags first i c.args.tag.now within
