-- How long a list can be after cuts.
use Rattle.std.proofs.Common.{◌≡◌, ℕ, ◌+◌, ◌≤◌, List, [], ◌∷◌, length, get_or, refl, inl, inr, arith, length-append, lt-ltb, le-ltb}
use Rattle.std.proofs.lemmas.Bool.{cases_Bool, cases_lt}
use Rattle.extent_list.specs.{dcd_codes.specs.dcd_base.specs.declared.capacity.Extent.Extent, ExtentLists.cut, ExtentLists.cut_all, ExtentLists.has_range, ExtentLists.piece}

length_piece : (x : Extent) (from to : ℕ) → length (piece x from to) ≤ 1
length_piece x from to = elim (cases_lt from to) [
  | inl less ↦ rw (lt-ltb _ _ less) (omega arith)
  | inr more ↦ rw (le-ltb _ _ more) (omega arith)
]

length_cut : (start bytes : ℕ) (xs : List Extent) → length (cut start bytes xs) ≤ length xs + 1
length_cut start bytes [] = omega arith
length_cut start bytes (x ∷ xs) = elim (cases_Bool (has_range start bytes x)) [
  | inl gives ↦ rw gives (simp length-append (omega (arith, length_piece x x.start start, length_piece x (start + bytes) (x.start + x.length))))
  | inr stays ↦ rw stays (omega (arith, length_cut start bytes xs))
]

pub length_cut_all : (list xs : List Extent) → length (cut_all list xs) ≤ length xs + length list
length_cut_all [] xs = omega arith
length_cut_all (y ∷ list) xs = omega (arith, length_cut y.start y.length xs, length_cut_all list (cut y.start y.length xs))

-- what one extent alone leaves
pub cut_only : (list xs : List Extent) (d : Extent) → length list ≡ 1 → cut_all list xs ≡ cut (get_or list 0 d).start (get_or list 0 d).length xs
cut_only (x ∷ []) xs d one = refl
cut_only [] xs d one = absurd (omega (arith, one))
cut_only (x ∷ y ∷ list) xs d one = absurd (omega (arith, one))
