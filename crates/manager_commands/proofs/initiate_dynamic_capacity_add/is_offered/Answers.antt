use Rattle.std.proofs.{Common.[], Common.arith, Common.ap, Common.sym, Common.refl, Common.◌∙◌, lemmas.List.Folds.list_any_at, lemmas.List.Folds.list_any_more, lemmas.Option.get_or_from_slice_get}
use Rattle.extent_list.specs.ExtentLists.{has_extent_of}
use Rattle.manager_commands.proofs.initiate_dynamic_capacity_add.is_offered.Goals as goal

pub returns-then-has_extent : goal.returns-then-has_extent
returns-then-has_extent c =
    let has = has_extent_of c.args.tag.now in
    let offers = c.args.lists.now.offers in
    let at = get_or_from_slice_get offers c.loop-i.i c.offer_at.result.now [] c.offer_at.ensures in
    sym (list_any_at has offers c.loop-i.i [] (omega (arith, c.loop-i-test.true, c.offer_count-i-end.ensures)) (ap has at ∙ sym c.has_extent.ensures ∙ c.if-has_extent.true))

pub loop-i-preserved : goal.loop-i-preserved
loop-i-preserved c =
    let has = has_extent_of c.args.tag.now in
    let offers = c.args.lists.now.offers in
    let at = get_or_from_slice_get offers c.loop-i.i c.offer_at.result.now [] c.offer_at.ensures in
    let other = ap has at ∙ sym c.has_extent.ensures ∙ c.if-has_extent.false in
    list_any_more has offers c.loop-i.i [] (omega (arith, c.loop-i-test.true, c.offer_count-i-end.ensures)) ∙ rw (c.loop-i.invariant, other) refl
