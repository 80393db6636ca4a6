use Rattle.std.proofs.Common.{All, ◌+◌, ◌<◌, ◌^◌}
use Rattle.extent_list.specs.dcd_codes.specs.dcd_base.specs.declared.capacity.Extent.{Extent}
use Rattle.release_core.proofs.counting.count_rule.Goals as goal

pub extents_left-requires-clause-ends : goal.extents_left-requires-clause-ends
extents_left-requires-clause-ends c =
    let ends : All (λ (x : Extent). x.start + x.length < 2 ^ 64) c.args.list.now = λ i d known. (c.requires.leaving.each i d known).ends in
    ends
