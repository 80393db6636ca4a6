-- Two tags are one where both halves are, each read as a number.
use Rattle.std.proofs.Common.{◌≡◌, ℕ, ◌+◌, ◌<◌, ◌≤◌, List, ◌++◌, length, get_or, take, drop, refl, sym, ap, ◌∙◌, nat_eq, inl, inr, arith, length-drop}
use Rattle.std.proofs.lemmas.{Bool.cases_Bool, Bool.cases_lt, Bool.eqb-true, Bool.eq-eqb, Cmp.nat_list_eq_equiv}
use Rattle.std.proofs.lemmas.{List.get_or-drop, List.get_or-take, List.get_or_past, List.length-take, List.take-append-drop, List.take_all, Nat.le_bytes_8}
use Rattle.std.specs.{Cmp.Lexicographic.same_text, Int.from_le_bytes, Int.to_le_bytes, Int.w64}
use lib.Pointwise.{pointwise}

-- sixteen bytes
pub record IsTagBytes (bytes : List ℕ) : Type 0 where
  pub sixteen : length bytes ≡ 16
  pub small : (i : ℕ) → get_or bytes i 0 < 256

abbrev pub number_at : List ℕ → ℕ → ℕ
number_at bytes at = from_le_bytes w64 (take 8 (drop at bytes))

small_at : (bytes : List ℕ) (at i : ℕ) → ((k : ℕ) → get_or bytes k 0 < 256) → get_or (take 8 (drop at bytes)) i 0 < 256
small_at bytes at i small = elim (cases_lt i 8) [
  | inl lt ↦ rw (get_or-take 8 (drop at bytes) i 0 lt, get_or-drop at bytes i 0) (small (at + i))
  | inr le ↦ rw (get_or_past (take 8 (drop at bytes)) i 0 (omega (arith, length-take 8 (drop at bytes)))) (omega arith)
]

-- a half, from its number
half : (bytes : List ℕ) (at : ℕ) → IsTagBytes bytes → at + 8 ≤ 16 → to_le_bytes w64 (number_at bytes at) ≡ take 8 (drop at bytes)
half bytes at is within =
    le_bytes_8 (take 8 (drop at bytes)) _ (omega (arith, length-take 8 (drop at bytes), length-drop at bytes, is.sixteen)) (λ i. small_at bytes at i is.small) refl

same_half : (a b : List ℕ) (at : ℕ) → IsTagBytes a → IsTagBytes b → at + 8 ≤ 16 → number_at a at ≡ number_at b at → take 8 (drop at a) ≡ take 8 (drop at b)
same_half a b at first second within is = sym (half a at first within) ∙ ap (to_le_bytes w64) is ∙ half b at second within

in_halves : (bytes : List ℕ) → IsTagBytes bytes → bytes ≡ take 8 bytes ++ take 8 (drop 8 bytes)
in_halves bytes is = sym (take-append-drop 8 bytes) ∙ ap (λ rest. take 8 bytes ++ rest) (sym (take_all 8 (drop 8 bytes) (omega (arith, length-drop 8 bytes, is.sixteen))))

both_halves : (a b : List ℕ) → IsTagBytes a → IsTagBytes b → number_at a 0 ≡ number_at b 0 → number_at a 8 ≡ number_at b 8 → a ≡ b
both_halves a b first second low high =
    in_halves a first ∙ ap (λ part. part ++ take 8 (drop 8 a)) (same_half a b 0 first second (omega arith) low)
    ∙ ap (λ part. take 8 b ++ part) (same_half a b 8 first second (omega arith) high) ∙ sym (in_halves b second)

-- where the first half is the same, the second decides
pub second_decides : (a b : List ℕ) → IsTagBytes a → IsTagBytes b → number_at a 0 ≡ number_at b 0 → nat_eq (number_at a 8) (number_at b 8) ≡ pointwise nat_eq a b
second_decides a b first second low = elim (cases_Bool (nat_eq (number_at a 8) (number_at b 8))) [
  | inl same ↦ same ∙ sym (ap (λ x. pointwise nat_eq x b) (both_halves a b first second low (eqb-true _ _ same)) ∙ nat_list_eq_equiv.refl b)
  | inr other ↦ elim (cases_Bool (pointwise nat_eq a b)) [
    | inl same ↦ eq-eqb _ _ (ap (λ x. number_at x 8) (same_text a b (sym same))) ∙ sym same
    | inr different ↦ other ∙ sym different
  ]
]
