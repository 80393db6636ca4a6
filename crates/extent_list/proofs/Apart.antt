-- Lists of extents that stand apart: the owner of an extent, and no address twice.
use Rattle.std.proofs.Common.{◌≡◌, ℕ, ◌+◌, ◌<◌, Bool, true, false, inl, inr, List, [], ◌∷◌, Some, None, length, get_or, take, option_map, refl, sym, ap, ◌∙◌, arith}
use Rattle.std.proofs.lemmas.{Bool.and_left, Bool.and_right, Bool.cases_Bool, Bool.le-ltb, Iterator.Adapters.position_from-zero, List.get_or-take, List.length-take-le, List.Folds.list_any_at}
use Rattle.std.proofs.lemmas.List.{Quantifiers.position-Some, Sums.position_or_len_is}
use Rattle.std.specs.List.{list_any, position, position_from, position_or_len}
use Rattle.dcd_base.specs.declared.capacity.Extent.{Extent}
use Rattle.dcd_codes.specs.declared.rules.Rule.{Rule}
use Rattle.extent_list.{proofs.ApartLists.only_holder, specs.Apart.StandApart, specs.ExtentLists.is_in, specs.ExtentLists.lies_in, specs.ExtentLists.overlaps, specs.Listing.overlapping}
use Rattle.extent_list.specs.Orders.{AreApart}

-- a test that holds nowhere
position_nowhere : (p : Extent → Bool) (xs : List Extent) (d : Extent) → ((k : ℕ) → k < length xs → p (get_or xs k d) ≡ false) → position p xs ≡ None
position_nowhere p xs d none =
    let first : position_or_len p xs ≡ length xs = position_or_len_is p xs (length xs) d (omega arith) none (λ below. absurd (omega (arith, below))) in
    rw (first, le-ltb (length xs) (length xs) (omega arith)) refl

-- an owner of an extent that has some bytes is its only one, where owners stand apart
pub only_owner : (owners : List Extent) (x : Extent) (i : ℕ) (d : Extent) → StandApart owners → 0 < x.length → i < length owners → lies_in x (get_or owners i d) ≡ true → position (lies_in x) owners ≡ Some i
only_owner owners x i d apart some known here = only_holder x.start x.length owners i d apart some known here

-- no address twice
pub apart-by : (xs : List Extent) (i : ℕ) (d : Extent) → i < length xs → ((k : ℕ) → k < i → overlaps (get_or xs i d) (get_or xs k d) ≡ false) → overlapping (take i xs) (get_or xs i d) ≡ None
apart-by xs i d known each =
    let x = get_or xs i d in
    let none : position (overlaps x) (take i xs) ≡ None = position_nowhere (overlaps x) (take i xs) d (λ k below.
    let less : k < i = omega (arith, below, length-take-le i xs (omega (arith, known))) in rw (get_or-take i xs k d less) (each k less)) in
    ap (option_map (λ j. Rule.Overlap (length (take i xs)) j)) none

pub none_shared : (xs : List Extent) → StandApart xs → AreApart xs
none_shared xs apart i d known = apart-by xs i d known (λ k below. elim (apart k i d below known) [
  | inl under ↦ and_left _ _ (le-ltb _ _ under)
  | inr over ↦ and_right _ _ (le-ltb _ _ over)
])

-- whether an extent lies in an owner, by the place of its first
pub in_at : (owners : List Extent) (x : Extent) (i : ℕ) (d : Extent) → position (lies_in x) owners ≡ Some i → is_in owners x ≡ true
in_at owners x i d found = let facts = position-Some (lies_in x) owners i d found in list_any_at (lies_in x) owners i d facts.0 facts.1

any-none : (p : Extent → Bool) (n : ℕ) (xs : List Extent) → position_from p n xs ≡ None → list_any p xs ≡ false
any-none p n [] none = refl
any-none p n (x ∷ xs) none = elim (cases_Bool (p x)) [
  | inl here ↦ absurd (cc (rw here at none))
  | inr other ↦ rw other (any-none p (n + 1) xs (rw other at none))
]

pub in_none : (owners : List Extent) (x : Extent) → position (lies_in x) owners ≡ None → is_in owners x ≡ false
in_none owners x none = any-none (lies_in x) 0 owners (sym (position_from-zero (lies_in x) owners) ∙ none)
