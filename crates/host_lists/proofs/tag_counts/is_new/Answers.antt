use Rattle.std.proofs.{Common.◌≡◌, Common.◌++◌, Common.true, Common.not, Common.ap, Common.sym, Common.refl, Common.◌∙◌, lemmas.Bool.and_right}
use Rattle.extent_list.specs.ExtentLists.{has_extent_of}
use Rattle.host_lists.{specs.Tags.extents_before, proofs.Offered.has_extent_before}
use Rattle.host_lists.proofs.tag_counts.is_new.Goals as goal

pub returns-then-is_tag_of_last : goal.returns-then-is_tag_of_last
returns-then-is_tag_of_last c =
    let t = c.args.tag.now in
    let accepted = c.args.accepted.now in
    let before = c.args.before.now in
    let has : has_extent_of t (extents_before accepted c.args.offers.now c.args.count ++ before) ≡ true =
    has_extent_before t accepted c.args.offers.now c.args.count before ∙ rw (c.is_tag_of_last.ensures c.if-is_tag_of_last.true) refl in
    sym (and_right _ _ (ap not has))
