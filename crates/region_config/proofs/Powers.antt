-- The supported sizes are the set bits of the mask; the largest is the highest of them.
use Rattle.std.proofs.Common.{◌≡◌, ℕ, zero, suc, ◌+◌, ◌-◌, ◌*◌, ◌/◌, ◌^◌, ◌<◌, ◌≤◌, max, Bool, true, false, not, ◌&&◌, eqb, List, [], map, fold, Decides, refl, ap, subst, sym, ◌∙◌, inl, inr, bit_and, count_ones, arith}
use Rattle.std.proofs.lemmas.Bool.{and_parts, and_from, not-true, not_from_false, cases_eq, cases_Bool, eq-eqb, eqb-true, or_right, or_cases, ne_eqb, eqb-false, false≢true}
use Rattle.std.proofs.{Math.Nat.pow-suc, Math.Nat.zero-mul, Math.Nat.div-eq_of_lt-le, lemmas.Nat.pow_pos, lemmas.Nat.pow_below, lemmas.Nat.leading_top, lemmas.Nat.ones_cat, lemmas.Nat.zero_from_ones}
use Rattle.std.{proofs.lemmas.Nat.Bits.bit_at-lt, proofs.lemmas.Nat.Bits.bit_at_above, proofs.lemmas.Nat.Bits.and_pow, specs.Int.bit_at, specs.Int.is_power_of_two, specs.Int.Count.ones-ones}
use Rattle.std.specs.List.{filter, list_any, range_with_len}
use Rattle.region_config.specs.{declared.region_spec.RegionSpec.RegionSpec, Granules.sizes_in, Granules.is_supported, Setups.largest_size}

-- the powers of two from 2 ^ a on, n of them, whose exponent passes
abbrev powers : (ℕ → Bool) → ℕ → ℕ → List ℕ
powers p a n = map (λ k. 2 ^ k) (filter p (range_with_len a n))

in_powers : (p : ℕ → Bool) (size a n k : ℕ) → a ≤ k → k < a + n → p k ≡ true → size ≡ 2 ^ k → list_any (λ m. eqb m size) (powers p a n) ≡ true
in_powers p size a zero k low high here is = absurd (omega (arith, low, high))
in_powers p size a (suc n) k low high here is = elim (cases_eq k a) [
  | inl first ↦ (let passes : p a ≡ true = subst (λ j. p j ≡ true) first here in
      let it : eqb (2 ^ a) size ≡ true = eq-eqb (2 ^ a) size (rw (is, first) refl) in
      rw (passes, it) refl)
  | inr later ↦ (let rest = in_powers p size (a + 1) n k (omega (arith, low, later)) (omega (arith, high)) here is in
      elim (cases_Bool (p a)) [
        | inl passes ↦ rw passes (or_right _ _ rest)
        | inr fails ↦ rw fails rest
      ])
]

of_powers : (p : ℕ → Bool) (size a n : ℕ) → list_any (λ m. eqb m size) (powers p a n) ≡ true → (k : ℕ) × (a ≤ k) × (k < a + n) × (p k ≡ true) × (size ≡ 2 ^ k)
of_powers p size a zero among = absurd (false≢true among)
of_powers p size a (suc n) among = elim (cases_Bool (p a)) [
  | inl passes ↦ elim (or_cases _ _ (rw passes at among)) [
    | inl first ↦ (a, omega arith, omega arith, passes, sym (eqb-true _ _ first))
    | inr later ↦ (let rest = of_powers p size (a + 1) n later in (rest.0, omega (arith, rest.1), omega (arith, rest.2), rest.3, rest.4))
  ]
  | inr fails ↦ (let rest = of_powers p size (a + 1) n (rw fails at among) in (rest.0, omega (arith, rest.1), omega (arith, rest.2), rest.3, rest.4))
]

none_of_powers : (p : ℕ → Bool) (a n : ℕ) → ((k : ℕ) → a ≤ k → k < a + n → p k ≡ false) → powers p a n ≡ []
none_of_powers p a zero none = refl
none_of_powers p a (suc n) none =
    rw (none a (omega arith) (omega arith)) (none_of_powers p (a + 1) n (λ k low high. none k (omega (arith, low)) (omega (arith, high))))

largest_of_powers : (p : ℕ → Bool) (a n k so_far : ℕ) → a ≤ k → k < a + n → p k ≡ true → ((j : ℕ) → k < j → j < a + n → p j ≡ false) → so_far ≤ 2 ^ k → fold max so_far (powers p a n) ≡ 2 ^ k
largest_of_powers p a zero k so_far low high here none below = absurd (omega (arith, low, high))
largest_of_powers p a (suc n) k so_far low high here none below = elim (cases_eq k a) [
  | inl first ↦ (let passes : p a ≡ true = subst (λ j. p j ≡ true) first here in
      let rest = none_of_powers p (a + 1) n (λ j l h. none j (omega (arith, l, first)) (omega (arith, h))) in
      rw (passes, rest, ← first) (omega (arith, below)))
  | inr later ↦ elim (cases_Bool (p a)) [
    | inl passes ↦ rw passes (largest_of_powers p (a + 1) n k (max so_far (2 ^ a)) (omega (arith, low, later)) (omega (arith, high)) here (λ j l h. none j l (omega (arith, h)))
        (omega (arith, below, pow_below a k (omega (arith, low, later)))))
    | inr fails ↦ rw fails (largest_of_powers p (a + 1) n k so_far (omega (arith, low, later)) (omega (arith, high)) here (λ j l h. none j l (omega (arith, h))) below)
  ]
]

-- a number between two powers of two has the bit of the lower one
pub top_bit : (n k : ℕ) → 2 ^ k ≤ n → n < 2 * 2 ^ k → bit_at n k ≡ 1
top_bit n k low high =
    let some : 0 < 2 ^ k = pow_pos k in
    let one : n / 2 ^ k ≡ 1 = div-eq_of_lt-le (2 ^ k) (omega (arith, low)) (omega (arith, high)) in
    rw one refl

pub largest_is : (spec : RegionSpec) (k : ℕ) → 2 ^ k ≤ spec.sizes → spec.sizes < 2 * 2 ^ k → k < 64 → largest_size spec ≡ 2 ^ k
unfolding largest_size sizes_in
largest_is spec k low high within =
    largest_of_powers (λ n. eqb (bit_at spec.sizes n) 1) 0 64 k 0 (omega arith) (omega (arith, within)) (eq-eqb _ _ (top_bit spec.sizes k low high))
    (λ j l h. ne_eqb _ _ (let gone : bit_at spec.sizes j ≡ 0 = bit_at_above spec.sizes (suc k) j (omega (arith, high, pow-suc 2 k)) (omega (arith, l)) in λ e. absurd (omega (arith, e, gone))))
    (omega arith)

-- The supported sizes are the powers of two whose bit is set.
pub record IsSizeOf (spec : RegionSpec) (size : ℕ) : Type 0 where
  pub exponent : ℕ
  pub within : exponent < 64
  pub set : bit_at spec.sizes exponent ≡ 1
  pub is : size ≡ 2 ^ exponent

pub supported : (spec : RegionSpec) (size : ℕ) → Decides (is_supported spec size) (IsSizeOf spec size)
unfolding sizes_in
supported spec size = (
  λ t. let w = of_powers (λ n. eqb (bit_at spec.sizes n) 1) size 0 64 t in
      record { exponent = w.0; within = omega (arith, w.2); set = eqb-true _ _ w.3; is = w.4 },
  λ s. in_powers (λ n. eqb (bit_at spec.sizes n) 1) size 0 64 s.exponent (omega arith) (omega (arith, s.within)) (eq-eqb _ _ s.set) s.is,
)

-- a number with one set bit is a power of two
power_of : (size : ℕ) → size < 2 ^ 64 → is_power_of_two size ≡ true → (k : ℕ) × (k < 64) × (size ≡ 2 ^ k)
power_of size fits one = elim (cases_eq size 0) [
  | inl none ↦ (let count : count_ones size ≡ 1 = eqb-true _ _ one in absurd (omega (arith, count, ap count_ones none, ones-ones 0)))
  | inr some ↦ (let top = leading_top 64 size (omega (arith, some)) fits in
      let rest : ℕ = size - 2 ^ top.0 in
      let small : rest < 2 ^ top.0 = omega (arith, top.2, top.3, pow-suc 2 top.0) in
      let whole : 1 * 2 ^ top.0 + rest ≡ size = omega (arith, top.2) in
      let split = ones_cat top.0 1 rest small in
      let count : count_ones size ≡ 1 = eqb-true _ _ one in
      let none : rest ≡ 0 = zero_from_ones rest (omega (arith, split, ap count_ones whole, count, ones-ones 1)) in
      (top.0, omega (arith, top.1), omega (arith, whole, none)))
]

-- and a power of two has one set bit
is_power : (k : ℕ) → is_power_of_two (2 ^ k) ≡ true
is_power k =
    let split = ones_cat k 1 0 (pow_pos k) in
    let whole : 1 * 2 ^ k + 0 ≡ 2 ^ k = omega arith in
    eq-eqb _ _ (omega (arith, split, ap count_ones whole, ones-ones 1, ones-ones 0))

and_at : (n size k : ℕ) → size ≡ 2 ^ k → bit_and n size ≡ bit_at n k * 2 ^ k
and_at n size k is = rw is (and_pow n k)

-- the test that the code makes
pub supported_is : (spec : RegionSpec) (size : ℕ) → size < 2 ^ 64 → Decides (is_power_of_two size && not (eqb (bit_and spec.sizes size) 0)) (IsSizeOf spec size)
supported_is spec size fits = (
  λ t. let parts = and_parts _ _ t in
      let power = power_of size fits parts.0 in
      let bit : bit_and spec.sizes size ≡ bit_at spec.sizes power.0 * 2 ^ power.0 = and_at spec.sizes size power.0 power.2 in
      let some = eqb-false _ _ (not-true _ parts.1) in
      record {
        exponent = power.0;
        within = power.1;
        is = power.2;
        set = elim (cases_eq (bit_at spec.sizes power.0) 0) [
          | inl none ↦ absurd (some (bit ∙ ap (λ b. b * 2 ^ power.0) none ∙ zero-mul (2 ^ power.0)))
          | inr set ↦ omega (arith, set, bit_at-lt spec.sizes power.0)
        ];
      },
  λ s. let bit : bit_and spec.sizes size ≡ 2 ^ s.exponent = (omega (arith, and_at spec.sizes size s.exponent s.is, ap (λ b. b * 2 ^ s.exponent) s.set)) in
      let power : is_power_of_two size ≡ true = ap is_power_of_two s.is ∙ is_power s.exponent in
      and_from _ _ power (not_from_false _ (ne_eqb _ _ (λ none. absurd (omega (arith, none, bit, pow_pos s.exponent))))),
)
