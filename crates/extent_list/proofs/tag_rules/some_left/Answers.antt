use Rattle.std.proofs.Common.{get_or, sym, ◌∙◌}
use Rattle.extent_list.{specs.Listing.too_few_of, proofs.EachTag.next_is, proofs.EachTag.over_found, proofs.EachTag.over_more, proofs.FirstOwner.no_extent, proofs.Shares.none_left}
use Rattle.extent_list.proofs.tag_rules.some_left.Goals as goal

pub returns-in-Some : goal.returns-in-Some
returns-in-Some c =
    let shared = c.args.shared.now in
    let check = too_few_of c.args.owners.now shared in
    sym (over_found check shared c.loop-i.i no_extent c.in-Some.rule c.loop-i-test.true c.loop-i.invariant
    (next_is check _ c.split_at.result.0.now (get_or shared c.loop-i.i no_extent) c.split_at.ensures.front ∙ sym c.left_of.ensures ∙ c.in-Some.is))

pub loop-i-preserved : goal.loop-i-preserved
loop-i-preserved c =
    let shared = c.args.shared.now in
    let check = too_few_of c.args.owners.now shared in
    over_more check shared c.loop-i.i no_extent c.loop-i-test.true c.loop-i.invariant
    (next_is check _ c.split_at.result.0.now (get_or shared c.loop-i.i no_extent) c.split_at.ensures.front ∙ sym c.left_of.ensures ∙ c.in_default.is)

pub returns-then-have_same_tags : goal.returns-then-have_same_tags
returns-then-have_same_tags c = sym (none_left c.args.owners.now c.args.shared.now (c.have_same_tags.ensures c.if-have_same_tags.true))
