-- The extent at the index at which a search stops is the one that a search finds, and what a cut of it makes.
use Rattle.std.proofs.Common.{◌≡◌, ℕ, ◌+◌, ◌≤◌, Bool, true, List, [], ◌∷◌, length, slice_get, Some, None, IfSome, refl, sym, ap, subst, ◌∙◌, inl, inr, arith}
use Rattle.std.proofs.lemmas.{Bool.cases_Bool, Bool.cases_lt, Bool.leb-true, Bool.lt-ltb, Bool.ltb-true, List.Folds.find_at, List.Quantifiers.position-Some, List.Sums.position_or_len_is}
use Rattle.std.{proofs.lemmas.Option.none-some, specs.List.position_or_len, specs.Prelude.nat_lt, specs.Prelude.position, specs.Prelude.find, specs.Prelude.if◌then◌else◌}
use Rattle.dcd_base.specs.declared.capacity.Extent.{Extent}
use Rattle.extent_list.specs.{ExtentLists.cut, ExtentLists.has_range, Rooms.IsCutInAddresses, Rooms.IsInAddresses}
use Rattle.host_driver.specs.Driving.{cut_out, cut_within, is_below_end}

pub found_at : (p : Extent → Bool) (xs : List Extent) (i : ℕ) (x : Extent) → position p xs ≡ Some i → slice_get xs i ≡ Some x → find p xs ≡ Some x
found_at p xs i x found is =
    let facts = position-Some p xs i x found in
    let first : position_or_len p xs ≡ i = position_or_len_is p xs i x (omega (arith, facts.0)) facts.2 (λ below. facts.1) in
    find_at p xs ∙ ap (slice_get xs) first ∙ is

past_all : (p : Extent → Bool) (xs : List Extent) → length xs ≤ position_or_len p xs → find p xs ≡ None
past_all p [] past = refl
past_all p (x ∷ xs) past = elim (cases_Bool (p x)) [
  | inl here ↦ absurd (omega (arith, rw here at past))
  | inr other ↦ rw other (past_all p xs (omega (arith, rw other at past)))
]

found_nowhere : (p : Extent → Bool) (xs : List Extent) → position p xs ≡ None → find p xs ≡ None
found_nowhere p xs none = elim (cases_lt (position_or_len p xs) (length xs)) [
  | inl below ↦ absurd (none-some (position_or_len p xs) (sym none ∙ rw (lt-ltb _ _ below) refl))
  | inr past ↦ past_all p xs past
]

-- in none of them
pub stays_whole : (xs : List Extent) (x : Extent) → position (has_range x.start x.length) xs ≡ None → xs ≡ cut_out xs x
stays_whole xs x none = sym (ap (cut_within xs x) (found_nowhere (has_range x.start x.length) xs none))

-- in the one at this index
pub cut_of : (xs : List Extent) (x : Extent) (i : ℕ) (y : Extent) → position (has_range x.start x.length) xs ≡ Some i → slice_get xs i ≡ Some y
    → cut_out xs x ≡ if is_below_end x y then cut x.start x.length xs else xs
cut_of xs x i y found is = ap (cut_within xs x) (found_at (has_range x.start x.length) xs i y found is)

pub can_cut : (xs : List Extent) (x : Extent) (i : ℕ) (y : Extent) → position (has_range x.start x.length) xs ≡ Some i → slice_get xs i ≡ Some y
    → is_below_end x y ≡ true → IsCutInAddresses x.start x.length xs
can_cut xs x i y found is below = elim (cases_Bool (nat_lt (x.start + x.length) 18446744073709551616)) [
  | inl less ↦ inl (ltb-true (x.start + x.length) 18446744073709551616 less)
  | inr more ↦ inr (subst (λ o. IfSome o IsInAddresses) (sym (found_at (has_range x.start x.length) xs i y found is))
      (leb-true (y.start + y.length) 18446744073709551616 (rw more at below)))
]
