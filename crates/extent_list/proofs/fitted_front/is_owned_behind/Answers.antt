use Rattle.std.{proofs.Common.◌≡◌, proofs.Common.◌&&◌, proofs.Common.List, proofs.Common.get_or, proofs.Common.sym, proofs.Common.ap, proofs.Common.◌∙◌, proofs.Common.refl, specs.Prelude.◌==◌}
use Rattle.dcd_base.specs.declared.capacity.Extent.{Extent}
use Rattle.extent_list.proofs.{Apart.in_at, FirstOwner.no_extent, FirstOwner.owner_at, FitFront.not_true, FitFront.part_none}
use Rattle.extent_list.proofs.fitted_front.is_owned_behind.Goals.{else-shareable-via-then-shareable+else-not-is_same, else-shareable-via-else-shareable}
use Rattle.extent_list.specs.ExtentLists.{owner_of}
use Rattle.extent_list.proofs.fitted_front.is_owned_behind.Goals as goal

pub returns-then-apart : goal.returns-then-apart
returns-then-apart c = λ yes.
    let x = c.args.extent.now in
    let place = sym c.index_of.ensures.value ∙ c.in-Some.is in
    record {
      inside = in_at c.args.owners.now x c.in-Some.index no_extent place;
      apart = c.requires yes;
      whole = elim c.else-shareable.branch [
        | else-shareable-via-then-shareable+else-not-is_same w ↦
            let owner : get_or w.as_slice.result.now c.in-Some.index no_extent ≡ owner_of c.args.owners.now x =
            ap (λ (xs : List Extent). get_or xs c.in-Some.index no_extent) w.as_slice.ensures ∙ owner_at c.args.owners.now x c.in-Some.index no_extent place in
            part_none c.args.shareable _ (ap (λ (o : Extent). (x.start == o.start) && (x.length == o.length)) (sym owner) ∙ sym w.is_same.ensures ∙ w.if-not-is_same.false)
        | else-shareable-via-else-shareable w ↦ rw w.if-shareable.false refl
      ];
    }

pub returns-else-apart : goal.returns-else-apart
returns-else-apart c = λ yes.
    let x = c.args.extent.now in
    let place = sym c.index_of.ensures.value ∙ c.in-Some.is in
    record {
      inside = in_at c.args.owners.now x c.in-Some.index no_extent place;
      apart = c.shares_some.ensures.none (not_true c.shares_some.result yes);
      whole = elim c.else-shareable.branch [
        | else-shareable-via-then-shareable+else-not-is_same w ↦
            let owner : get_or w.as_slice.result.now c.in-Some.index no_extent ≡ owner_of c.args.owners.now x =
            ap (λ (xs : List Extent). get_or xs c.in-Some.index no_extent) w.as_slice.ensures ∙ owner_at c.args.owners.now x c.in-Some.index no_extent place in
            part_none c.args.shareable _ (ap (λ (o : Extent). (x.start == o.start) && (x.length == o.length)) (sym owner) ∙ sym w.is_same.ensures ∙ w.if-not-is_same.false)
        | else-shareable-via-else-shareable w ↦ rw w.if-shareable.false refl
      ];
    }
