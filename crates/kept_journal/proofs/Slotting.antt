-- Numbers in slots: set, set again, and read back.
use Rattle.std.proofs.Common.{◌≡◌, ℕ, zero, suc, ◌<◌, Bool, true, false, cond, List, [], ◌∷◌, ◌++◌, length, get_or, take, drop, set, refl, sym, ap, ◌∙◌, arith, inl, inr, eqb, take-append-drop}
use Rattle.std.proofs.lemmas.{Bool.and_parts, Bool.cases_eq, Bool.eq-eqb, Bool.eqb-true, Bool.ltb-true, List.get_or-set_other, List.get_or-set_same, List.length-drop, List.length-take, Nat.le_bytes_8}
use Rattle.std.specs.{Int.w64, Int.from_le_bytes, Int.to_le_bytes, List.list_all}
use Rattle.dcd_base.{specs.Layouts.is_byte, specs.Layouts.number_at, proofs.Widths.IsBytes-drop, proofs.Widths.IsBytes-take, proofs.Widths.wide_64, proofs.Fields.IsBytes}
use Rattle.kept_journal.specs.Slots.{with_byte, with_slot}

cond_again : (t : Bool) (a b n : ℕ) → cond t b (cond t a n) ≡ cond t b n
cond_again true a b n = refl
cond_again false a b n = refl

-- a slot that is set twice
pub with_slot-again : (s : ℕ → ℕ) (k a b : ℕ) → with_slot (with_slot s k a) k b ≡ with_slot s k b
with_slot-again s k a b = λ i j. cond_again (eqb j k) a b (s j) i

same_at : (s : ℕ → ℕ) (j k : ℕ) (t : Bool) → (t ≡ true → j ≡ k) → cond t (s k) (s j) ≡ s j
same_at s j k true h = ap s (sym (h refl))
same_at s j k false h = refl

-- a slot that is set to its number
pub with_slot-same : (s : ℕ → ℕ) (k : ℕ) → with_slot s k (s k) ≡ s
with_slot-same s k = λ i j. same_at s j k (eqb j k) (eqb-true j k) i

-- the number of a slot that is set
pub with_slot-there : (s : ℕ → ℕ) (k n : ℕ) → with_slot s k n k ≡ n
with_slot-there s k n = ap (λ t. cond t n (s k)) (eq-eqb k k refl)

-- a slot whose number is one of eight bytes, of which another one is set
pub with_slot-byte : (s : ℕ → ℕ) (k place byte : ℕ) (bytes : List ℕ) → length bytes ≡ 8 → IsBytes bytes → with_slot (with_slot s k (from_le_bytes w64 bytes)) k (with_byte (with_slot s k (from_le_bytes w64 bytes) k) place byte) ≡ with_slot s k (from_le_bytes w64 (set bytes place byte))
with_slot-byte s k place byte bytes len small =
    with_slot-again s k _ _
    ∙ ap (λ n. with_slot s k (with_byte n place byte)) (with_slot-there s k _)
    ∙ ap (λ xs. with_slot s k (from_le_bytes w64 (set xs place byte))) (le_bytes_8 bytes _ len small refl)

-- the two halves of a tag
pub tag_halves : (bytes : List ℕ) → length bytes ≡ 16 → IsBytes bytes → to_le_bytes w64 (number_at w64 bytes 0) ++ to_le_bytes w64 (number_at w64 bytes 8) ≡ bytes
tag_halves bytes len small =
    let low : to_le_bytes w64 (from_le_bytes w64 (take 8 bytes)) ≡ take 8 bytes =
    wide_64.back (take 8 bytes) (omega (arith, length-take 8 bytes)) (IsBytes-take 8 bytes small) in
    let high : to_le_bytes w64 (from_le_bytes w64 (drop 8 bytes)) ≡ drop 8 bytes =
    wide_64.back (drop 8 bytes) (omega (arith, length-drop 8 bytes)) (IsBytes-drop 8 bytes small) in
    ap (λ n. to_le_bytes w64 n ++ to_le_bytes w64 (number_at w64 bytes 8)) (sym (wide_64.front bytes))
    ∙ ap (λ xs. xs ++ to_le_bytes w64 (number_at w64 bytes 8)) low
    ∙ ap (λ xs. take 8 bytes ++ xs) high
    ∙ take-append-drop 8 bytes

pub bytes_small : (n : ℕ) → IsBytes (to_le_bytes w64 n)
bytes_small n zero = omega arith
bytes_small n (suc zero) = omega arith
bytes_small n (suc (suc zero)) = omega arith
bytes_small n (suc (suc (suc zero))) = omega arith
bytes_small n (suc (suc (suc (suc zero)))) = omega arith
bytes_small n (suc (suc (suc (suc (suc zero))))) = omega arith
bytes_small n (suc (suc (suc (suc (suc (suc zero)))))) = omega arith
bytes_small n (suc (suc (suc (suc (suc (suc (suc zero))))))) = omega arith
bytes_small n (suc (suc (suc (suc (suc (suc (suc (suc i)))))))) = omega arith

pub IsBytes-set : (bytes : List ℕ) (k n : ℕ) → k < length bytes → n < 256 → IsBytes bytes → IsBytes (set bytes k n)
IsBytes-set bytes k n lt fits small i =
    elim (cases_eq i k) [
      | inl e ↦ let same : get_or (set bytes k n) i 0 ≡ n = ap (λ m. get_or (set bytes k n) m 0) e ∙ get_or-set_same bytes k n 0 lt in rw same fits
      | inr ne ↦ rw (get_or-set_other bytes k i n 0 ne) (small i)
    ]

pub small_bytes : (bytes : List ℕ) → list_all is_byte bytes ≡ true → IsBytes bytes
small_bytes [] all i = omega arith
small_bytes (x ∷ bytes) all zero = ltb-true x 256 (and_parts _ _ all).0
small_bytes (x ∷ bytes) all (suc i) = small_bytes bytes (and_parts _ _ all).1 i
