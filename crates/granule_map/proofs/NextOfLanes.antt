-- From the mask of one load to the next place that passes.
use Rattle.std.proofs.Common.{◌≡◌, ℕ, ◌+◌, ◌-◌, ◌^◌, ◌<◌, ◌≤◌, Bool, true, false, cond, List, length, get_or, map, drop, refl, ap, subst, sym, ◌∙◌, arith, inl, inr}
use Rattle.std.proofs.{Math.Nat.zero-add, lemmas.Bool.cases_lt, lemmas.List.get_or-drop, lemmas.List.get_or-map, lemmas.List.length-map}
use Rattle.std.proofs.lemmas.{Nat.Bits.bit_at-trailing_zeros, Nat.Bits.bit_at-zero, Nat.Bits.bit_at_above, Simd.bit_mask_l, Simd.get_or-chunk, Simd.length-chunk, Simd.mask_l-lt}
use Rattle.std.specs.Int.{bit_at, trailing_zeros, w64}
use lib.Lanes.{chunk, mask_l}
use Rattle.granule_map.specs.Stretches.{IsNext}

set_or_not : (b : Bool) → ◌≡◌ {A = ℕ} (cond b 1 0) 0 → b ≡ false
set_or_not true e = absurd (omega (arith, e))
set_or_not false e = refl

is_set : (b : Bool) → ◌≡◌ {A = ℕ} (cond b 1 0) 1 → b ≡ true
is_set true e = refl
is_set false e = absurd (omega (arith, e))

module _ (p : ℕ → Bool) (xs part : List ℕ) (from n found : ℕ) (part_is : part ≡ drop from xs) (room : n ≤ length part) (few : n ≤ 63) (found_is : found ≡ mask_l (map p (chunk 0 n part))) where
  long : length (chunk 0 n part) ≡ n
  long = length-chunk 0 n part (omega (arith, room))

  -- the bit of a place says whether it passes
  bit_is : (j : ℕ) → from ≤ j → j < from + n → bit_at found (j - from) ≡ cond (p (get_or xs j 0)) 1 0
  bit_is j low high =
      let place : from + (j - from) ≡ j = omega (arith, low) in
      ap (λ m. bit_at m (j - from)) found_is
      ∙ bit_mask_l (map p (chunk 0 n part)) (j - from)
      ∙ ap (λ b. cond b 1 0) (get_or-map p (chunk 0 n part) (j - from) 0 false (omega (arith, long, low, high)))
      ∙ ap (λ m. cond (p m) 1 0) (get_or-chunk 0 n part (j - from) 0 (omega (arith, low, high)) ∙ ap (λ m. get_or part m 0) (zero-add (j - from)) ∙ ap (λ (ys : List ℕ). get_or ys (j - from) 0) part_is ∙ get_or-drop from xs (j - from) 0)
      ∙ ap (λ m. cond (p (get_or xs m 0)) 1 0) place

  small : found < 2 ^ n
  small =
      let many : length (map p (chunk 0 n part)) ≡ n = length-map (chunk 0 n part) p ∙ long in
      rw found_is (subst (λ m. mask_l (map p (chunk 0 n part)) < 2 ^ m) many (mask_l-lt (map p (chunk 0 n part))))

  pub next_none : found ≡ 0 → IsNext (λ k. p (get_or xs k 0)) from (from + n) (from + n)
  next_none none = record {
    from_below = omega arith;
    within = omega arith;
    none_before = λ j low high. set_or_not _ (sym (bit_is j low high) ∙ ap (λ m. bit_at m (j - from)) none ∙ bit_at-zero (j - from));
    passes = λ past. absurd (omega (arith, past));
  }

  pub next_some : 0 < found → found < 2 ^ 64 → IsNext (λ k. p (get_or xs k 0)) from (from + n) (from + trailing_zeros w64 found)
  next_some some wide =
      let t = trailing_zeros w64 found in
      let lowest = bit_at-trailing_zeros w64 found some wide in
      let below : t < n = (elim (cases_lt t n) [ inl lt ↦ lt | inr le ↦ absurd (omega (arith, lowest.1, bit_at_above found n t small le)) ]) in
      let back : from + t - from ≡ t = omega arith in
      record {
        from_below = omega arith;
        within = omega (arith, below);
        none_before = λ j low high. set_or_not _ (sym (bit_is j low (omega (arith, high, below))) ∙ lowest.2 (j - from) (omega (arith, low, high)));
        passes = λ past. is_set _ (sym (bit_is (from + t) (omega arith) past) ∙ ap (bit_at found) back ∙ lowest.1);
      }
