use Rattle.std.proofs.Common.{◌≡◌, ◌+◌, ◌++◌, [], ap, sym, ◌∙◌}
use Rattle.host_lists.{specs.Tags.capped, specs.Tags.extents_before, specs.Tags.tag_count, proofs.Offered.extents_before_more, proofs.Offered.list_at}
use Rattle.host_lists.proofs.tag_counts.all_tags.Goals as goal

pub loop-i-preserved : goal.loop-i-preserved
loop-i-preserved c =
    let accepted = c.args.accepted.now in
    let lists = c.args.offers.now in
    let i = c.loop-i.i in
    let at = list_at c.args.offers.now i c.at-offer.result.now c.at-offer.ensures in
    let more : extents_before accepted lists i ++ c.at-offer.result.now ≡ extents_before accepted lists (i + 1) =
    ap (λ xs. extents_before accepted lists i ++ xs) (sym at.extents) ∙ extents_before_more accepted lists i [] at.known in
    c.more_tags-tags.ensures ∙ ap (λ xs. capped (tag_count xs)) more
