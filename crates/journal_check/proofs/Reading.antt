-- Reading what a line claims, byte by byte.
use Rattle.std.proofs.Common.{◌≡◌, inl, inr, true, false, ℕ, zero, suc, ◌+◌, ◌-◌, ◌*◌, ◌<◌, min, fold, List, [], ◌∷◌, length, drop, slice_index, refl, sym, ap, ◌∙◌, arith}
use Rattle.std.{specs.Prelude.◌==◌, specs.Prelude.if◌then◌else◌, proofs.lemmas.Bool.cases_Bool}
use Rattle.journal_check.specs.Claims.{behind, first_word}

-- ---- what stands behind a byte
pub found_behind : (mark : ℕ) (bytes : List ℕ) (k : ℕ) → k < length bytes → ((j : ℕ) → j < k → (slice_index bytes j == mark) ≡ true → ⊥) → (slice_index bytes k == mark) ≡ true
    → drop (suc k) bytes ≡ behind mark bytes
found_behind mark [] k within before is = absurd (omega (arith, within))
found_behind mark (byte ∷ bytes) zero within before is = sym (ap (λ b. if b then bytes else behind mark bytes) is)
found_behind mark (byte ∷ bytes) (suc k) within before is = elim (cases_Bool (byte == mark)) [
  | inl here ↦ absurd (before zero (omega arith) here)
  | inr other ↦
      found_behind mark bytes k (omega (arith, within)) (λ j less its. before (suc j) (omega (arith, less)) its) is
      ∙ sym (ap (λ b. if b then bytes else behind mark bytes) other)
]

pub none_behind : (mark : ℕ) (bytes : List ℕ) → ((j : ℕ) → j < length bytes → (slice_index bytes j == mark) ≡ true → ⊥) → [] ≡ behind mark bytes
none_behind mark [] none = refl
none_behind mark (byte ∷ bytes) none = elim (cases_Bool (byte == mark)) [
  | inl here ↦ absurd (none zero (omega arith) here)
  | inr other ↦ none_behind mark bytes (λ j less its. none (suc j) (omega (arith, less)) its) ∙ sym (ap (λ b. if b then bytes else behind mark bytes) other)
]

-- ---- the number of the first word
abbrev pub number_after : ℕ → List ℕ → ℕ
number_after n digits = fold (λ m b. 10 * m + (b - 48)) n digits

-- a number that is held down on the way is so at the end
pub held_down : (n : ℕ) (digits : List ℕ) → min 65537 (number_after (min 65537 n) digits) ≡ min 65537 (number_after n digits)
held_down n [] = omega arith
held_down n (d ∷ digits) =
    let here : min 65537 (10 * min 65537 n + (d - 48)) ≡ min 65537 (10 * n + (d - 48)) = omega arith in
    sym (held_down (10 * min 65537 n + (d - 48)) digits) ∙ ap (λ m. min 65537 (number_after m digits)) here ∙ held_down (10 * n + (d - 48)) digits

-- one byte of the word more
pub one_digit : (n byte : ℕ) (bytes : List ℕ) → (byte == 32) ≡ false
    → min 65537 (number_after (min 65537 (10 * n + (byte - 48))) (first_word bytes)) ≡ min 65537 (number_after n (first_word (byte ∷ bytes)))
one_digit n byte bytes other =
    held_down (10 * n + (byte - 48)) (first_word bytes) ∙ sym (ap (λ b. min 65537 (number_after n (if b then [] else byte ∷ first_word bytes))) other)
