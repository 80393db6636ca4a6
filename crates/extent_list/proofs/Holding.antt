-- A list in which no extent has a range stays as it is when the range is cut out.
use Rattle.std.proofs.Common.{◌≡◌, ℕ, ◌≤◌, List, [], ◌∷◌, length, None, refl, sym, ap, ◌∙◌, inl, inr, arith, lt-ltb}
use Rattle.std.{specs.List.position_or_len, proofs.lemmas.Bool.cases_Bool, proofs.lemmas.Bool.cases_lt, proofs.lemmas.Option.none-some}
use Rattle.dcd_base.specs.declared.capacity.Extent.{Extent}
use Rattle.extent_list.specs.ExtentLists.{cut, has_range, holder_of}

past_all : (start bytes : ℕ) (xs : List Extent) → length xs ≤ position_or_len (has_range start bytes) xs → cut start bytes xs ≡ xs
past_all start bytes [] past = refl
past_all start bytes (x ∷ xs) past = elim (cases_Bool (has_range start bytes x)) [
  | inl here ↦ absurd (omega (arith, rw here at past))
  | inr other ↦ rw other (ap (λ ys. x ∷ ys) (past_all start bytes xs (omega (arith, rw other at past))))
]

pub cut_nowhere : (start bytes : ℕ) (xs : List Extent) → holder_of start bytes xs ≡ None → cut start bytes xs ≡ xs
cut_nowhere start bytes xs none = elim (cases_lt (position_or_len (has_range start bytes) xs) (length xs)) [
  | inl below ↦ absurd (none-some (position_or_len (has_range start bytes) xs) (sym none ∙ rw (lt-ltb _ _ below) refl))
  | inr past ↦ past_all start bytes xs past
]
