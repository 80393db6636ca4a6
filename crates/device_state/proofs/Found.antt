-- The extent that is found is the one at its place.
use Rattle.std.proofs.Common.{◌≡◌, ℕ, ◌+◌, Bool, inl, inr, List, [], ◌∷◌, Some, None, get_or, slice_get, sym, ap, refl, ◌∙◌, arith}
use Rattle.std.proofs.lemmas.{Bool.cases_Bool, Iterator.Adapters.position_from-zero, List.Folds.find_at, List.Quantifiers.position-Some, List.Sums.position_or_len_is, Option.slice_get-get_or}
use Rattle.std.specs.List.{find, position, position_from}
use Rattle.cci_codec.specs.dcd_base.specs.declared.capacity.Extent.{Extent}

pub found-at : (p : Extent → Bool) (xs : List Extent) (i : ℕ) (d : Extent) → position p xs ≡ Some i → find p xs ≡ Some (get_or xs i d)
found-at p xs i d found =
    let facts = position-Some p xs i d found in
    find_at p xs ∙ ap (slice_get xs) (position_or_len_is p xs i d (omega (arith, facts.0)) facts.2 (λ below. facts.1)) ∙ slice_get-get_or xs i d facts.0

none_from : (p : Extent → Bool) (n : ℕ) (xs : List Extent) → position_from p n xs ≡ None → find p xs ≡ None
none_from p n [] none = refl
none_from p n (x ∷ xs) none = elim (cases_Bool (p x)) [
  | inl here ↦ absurd (cc (rw here at none))
  | inr other ↦ rw other (none_from p (n + 1) xs (rw other at none))
]

pub found-none : (p : Extent → Bool) (xs : List Extent) → position p xs ≡ None → find p xs ≡ None
found-none p xs none = none_from p 0 xs (sym (position_from-zero p xs) ∙ none)
