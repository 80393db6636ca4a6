use Rattle.std.proofs.Common.{ap, sym, ◌∙◌}
use Rattle.extent_list.specs.ExtentLists.{has_extent_of}
use Rattle.host_lists.proofs.Offered.{any_taken, none_taken, list_at}
use Rattle.host_lists.proofs.tag_counts.has_in_offers.Goals as goal

pub returns-then-has_extent_of : goal.returns-then-has_extent_of
returns-then-has_extent_of c =
    let has = has_extent_of c.args.tag.now in
    let at = list_at c.args.offers.now c.loop-i.i c.at.result.now c.at.ensures in
    sym (any_taken has c.args.offers.now c.args.count c.loop-i.i c.loop-i-test.true at.known
    (ap has at.extents ∙ sym c.has_extent_of.ensures ∙ c.if-has_extent_of.true))

pub loop-i-preserved : goal.loop-i-preserved
loop-i-preserved c =
    let has = has_extent_of c.args.tag.now in
    let at = list_at c.args.offers.now c.loop-i.i c.at.result.now c.at.ensures in
    none_taken has c.args.offers.now c.loop-i.i at.known c.loop-i.invariant
    (ap has at.extents ∙ sym c.has_extent_of.ensures ∙ c.if-has_extent_of.false)
