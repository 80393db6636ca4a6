use Rattle.std.proofs.Common.{◌≡◌, List, length, get_or, sym, ap, ◌∙◌, arith, rules}
use Rattle.dcd_base.specs.{Words.same_tag, declared.capacity.Extent.Extent}
use Rattle.extent_list.{specs.ExtentLists.marked, proofs.FirstOwner.no_extent, proofs.Shares.all_so_far, proofs.Shares.none_so_far, proofs.Shares.shared_more}
use Rattle.extent_list.proofs.tag_rules.are_all_shared.Goals as goal

pub loop-i-init : goal.loop-i-init
loop-i-init c = none_so_far c.args.config.now c.args.host c.args.owners.now c.args.list.now

pub loop-i-preserved : goal.loop-i-preserved
loop-i-preserved c =
    let owners = c.args.owners.now in
    let list = c.args.list.now in
    let i = c.loop-i.i in
    let lengths : length c.args.owners.now ≡ length c.args.list.now = ap length (sym c.as_slice-tagged.ensures) ∙ (search rules) in
    let owner : same_tag (get_or owners i no_extent).tag (marked owners (get_or list i no_extent)).tag ≡ same_tag (get_or c.as_slice-tagged.result.now i no_extent).tag c.owner_of-place.result.0.now.tag =
    ap (λ (xs : List Extent). same_tag (get_or xs i no_extent).tag (marked owners (get_or list i no_extent)).tag) (sym c.as_slice-tagged.ensures)
    ∙ ap (λ (x : Extent). same_tag (get_or c.as_slice-tagged.result.now i no_extent).tag x.tag) (sym c.owner_of-place.ensures) in
    shared_more c.args.config.now c.args.host owners list i no_extent (omega (arith, lengths, c.loop-i-test.true)) c.loop-i-test.true
    (sym c.is_shareable_near.ensures ∙ (search rules)) (owner ∙ sym c.same_tag.ensures ∙ (search rules)) c.loop-i.invariant

pub returns : goal.returns
returns c = λ yes.
    let lengths : length c.args.owners.now ≡ length c.args.list.now = ap length (sym c.as_slice-tagged.ensures) ∙ (search rules) in
    all_so_far c.args.config.now c.args.host c.args.owners.now c.args.list.now c.loop-i.i (omega (arith, lengths, c.loop-i-test.false)) (omega (arith, c.loop-i-test.false)) c.loop-i.invariant
