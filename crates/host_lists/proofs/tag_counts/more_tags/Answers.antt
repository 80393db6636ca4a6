use Rattle.std.proofs.Common.{◌≡◌, ◌+◌, ◌++◌, ap, get_or, sym, take, ◌∙◌}
use Rattle.host_lists.proofs.TagCounting.{capped_new, no_extent, one_more, tag_count_more}
use Rattle.host_lists.proofs.tag_counts.more_tags.Goals.{then-is_new, else-is_new}
use Rattle.host_lists.specs.Tags.{capped, extents_before, is_new, tag_count}
use Rattle.host_lists.proofs.tag_counts.more_tags.Goals as goal

pub loop-i-preserved : goal.loop-i-preserved
loop-i-preserved c =
    let before = extents_before c.args.accepted.now c.args.offers.now c.args.count in
    let xs = c.args.more.now in
    let i = c.loop-i.i in
    let x = get_or xs i no_extent in
    let known = tag_count (before ++ take i xs) in
    let new : is_new (before ++ take i xs) x.tag ≡ c.is_new.result = ap (λ ys. is_new (before ++ ys) x.tag) (sym c.split_at.ensures.front) ∙ sym c.is_new.ensures in
    let count : tag_count (before ++ take (i + 1) xs) ≡ one_more c.is_new.result known = tag_count_more before xs i no_extent c.loop-i-test.true ∙ ap (λ b. one_more b known) new in
    elim c.if-is_new.branch [
      | then-is_new w ↦ capped_new known _ c.loop-i.tags c.if-is_new.tags (count ∙ ap (λ b. one_more b known) w.if-is_new.true) c.loop-i.invariant (w.tags-is ∙ w.saturating_add-tags.ensures)
      | else-is_new w ↦ w.tags-is ∙ c.loop-i.invariant ∙ ap capped (sym (count ∙ ap (λ b. one_more b known) w.if-is_new.false))
    ]
