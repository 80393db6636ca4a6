use Rattle.std.proofs.Common.{◌≡◌, ◌∙◌, [], ◌∷◌, List, ap, drop, subst, sym}
use Rattle.std.specs.List.{list_all}
use Rattle.cci_codec.specs.dcd_base.specs.{Words.same_tag, declared.capacity.Extent.Extent}
use Rattle.device_state.{specs.EnteredLists.told, specs.Leaves.HasOnly, specs.Leaves.lists_left, specs.Leaves.told_left, proofs.Leaves.begins_with, proofs.Leaves.told_once}
use Rattle.device_state.proofs.leaving.only_tag.Goals as goal

pub returns-then-has_only : goal.returns-then-has_only
returns-then-has_only c = λ h entries known.
    let tag = c.in-Some-tag_at.tag in
    let first = c.in-Some.first.now in
    let l = c.args.lists.now in
    let only : HasOnly tag l.accepted =
    ap (λ (xs : List Extent). list_all (λ (x : Extent). same_tag x.tag tag) xs) (sym c.accepted.ensures ∙ sym c.as_slice.ensures) ∙ sym c.has_only.ensures ∙ c.if-has_only.true in
    subst (λ (xs : List Extent). told_left h l xs entries ≡ told h (lists_left xs l) (tag ∷ []) entries) (sym (begins_with c.args.leaving.now first (sym c.in-Some.ensures.value)))
    (told_once tag h known first (drop 1 c.args.leaving.now) l entries only c.in-Some-tag_at.ensures)
