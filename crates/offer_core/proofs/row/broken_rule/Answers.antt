use Rattle.std.proofs.Common.{◌≡◌, ◌+◌, ◌≤◌, ◌++◌, List, [], IfOk, length, ap, arith, rules, subst, sym, ◌∙◌}
use Rattle.std.proofs.lemmas.{Bool.eqb-true, List.nil_from_length}
use Rattle.offer_core.{proofs.Rows.whole_tried, specs.Offerings.lists_of}
use Rattle.extent_list.specs.dcd_codes.specs.dcd_base.specs.declared.capacity.Extent.{Extent}
use Rattle.offer_core.proofs.row.broken_rule.Goals as goal

pub returns : goal.returns
returns c =
    let offers = c.args.offers.now in
    let whole = c.as_slice.result.now in
    let is : whole ≡ offers.held ++ c.args.list.now = search rules in
    let few : length offers.held + length c.args.list.now ≤ 64 = omega (arith, c.if-listed-gt-LISTED_EXTENTS.false, ap length c.held.ensures) in
    let row = whole_tried c.args.config.now c.args.host c.args.accepted (lists_of offers.offers) offers.held c.args.list.now whole is few c.args.more c.if-more.false in
    subst (λ rule. IfOk c.broken_list_rule-2.result (λ found. found ≡ rule)) row c.broken_list_rule-2.ensures

pub returns-then-is_empty : goal.returns-then-is_empty
returns-then-is_empty c =
    let offers = c.args.offers.now in
    let zero : length c.held-2.result.now ≡ 0 = eqb-true (length c.held-2.result.now) 0 (sym c.is_empty.ensures ∙ c.if-is_empty.true) in
    let none : offers.held ≡ [] = sym c.held-2.ensures ∙ nil_from_length c.held-2.result.now zero in
    let is : c.args.list.now ≡ offers.held ++ c.args.list.now = ap (λ (xs : List Extent). xs ++ c.args.list.now) (sym none) in
    let few : length offers.held + length c.args.list.now ≤ 64 = omega (arith, c.if-listed-gt-LISTED_EXTENTS.false, ap length c.held.ensures) in
    let row = whole_tried c.args.config.now c.args.host c.args.accepted (lists_of offers.offers) offers.held c.args.list.now c.args.list.now is few c.args.more c.if-more.false in
    subst (λ rule. IfOk c.broken_list_rule.result (λ found. found ≡ rule)) row c.broken_list_rule.ensures
