-- The first owner of an extent, by its place.
use Rattle.std.proofs.Common.{◌≡◌, ℕ, ◌+◌, Bool, inl, inr, List, [], ◌∷◌, Some, None, get_or, slice_get, sym, ap, refl, ◌∙◌, arith}
use Rattle.std.proofs.lemmas.{Bool.cases_Bool, Iterator.Adapters.position_from-zero, List.Folds.find_at, List.Quantifiers.position-Some, List.Sums.position_or_len_is, Option.slice_get-get_or}
use Rattle.std.specs.{List.find, List.position, List.position_from, Prelude.unwrap_or}
use Rattle.dcd_base.specs.declared.capacity.Extent.{Extent}
use Rattle.extent_list.specs.ExtentLists.{lies_in, owner_of}

-- what an index past the end reads
abbrev pub no_extent : Extent
no_extent = record { start = 0; length = 0; tag = record { 0 = [] }; sequence = 0 }

find-at : (p : Extent → Bool) (xs : List Extent) (i : ℕ) (d : Extent) → position p xs ≡ Some i → find p xs ≡ Some (get_or xs i d)
find-at p xs i d found =
    let facts = position-Some p xs i d found in
    find_at p xs ∙ ap (slice_get xs) (position_or_len_is p xs i d (omega (arith, facts.0)) facts.2 (λ below. facts.1)) ∙ slice_get-get_or xs i d facts.0

pub owner_at : (owners : List Extent) (x : Extent) (i : ℕ) (d : Extent) → position (lies_in x) owners ≡ Some i → get_or owners i d ≡ owner_of owners x
owner_at owners x i d found = ap (λ o. unwrap_or o x) (sym (find-at (lies_in x) owners i d found))

-- nothing found from any place on
found-none : (p : Extent → Bool) (n : ℕ) (xs : List Extent) → position_from p n xs ≡ None → find p xs ≡ None
found-none p n [] none = refl
found-none p n (x ∷ xs) none = elim (cases_Bool (p x)) [
  | inl here ↦ absurd (cc (rw here at none))
  | inr other ↦ rw other (found-none p (n + 1) xs (rw other at none))
]

pub owner_none : (owners : List Extent) (x : Extent) → position (lies_in x) owners ≡ None → x ≡ owner_of owners x
owner_none owners x none = ap (λ o. unwrap_or o x) (sym (found-none (lies_in x) 0 owners (sym (position_from-zero (lies_in x) owners) ∙ none)))
