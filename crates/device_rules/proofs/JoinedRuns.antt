-- Joined numbers are in the runs, and no others are.
use Rattle.std.proofs.Common.{◌≡◌, ℕ, zero, suc, ◌+◌, ◌<◌, ◌≤◌, Bool, true, false, ◌&&◌, ◌||◌, List, [], ◌∷◌, take, inl, inr, refl, sym, ap, subst, ◌∙◌, arith}
use Rattle.std.specs.{Prelude.filter, Prelude.map, Prelude.nat_le, Prelude.nat_lt, Prelude.◌==◌, Prelude.if◌then◌else◌, List.list_any}
use Rattle.std.proofs.lemmas.Bool.{and_parts, cases_Bool, cases_eq, cases_lt, eq-eqb, eqb-true, false≢true, le-leb, le-ltb, lt-ltb, ne_eqb, leb-true}
use Rattle.cci_codec.specs.dcd_base.specs.Words.{has_granule, has_in_runs}
use Rattle.granule_map.specs.Choices.{joined, joined_onto}
use Rattle.extent_list.proofs.EachTag.{or_assoc}
use Rattle.device_rules.proofs.{HostSearches.or_true, RunEffects.run_from}

-- a number is not below another
not_above : (a b : ℕ) → b < a → nat_le a b ≡ false
not_above a b below = elim (cases_Bool (nat_le a b)) [
  | inl le ↦ absurd (omega (arith, below, leb-true a b le))
  | inr fails ↦ fails
]

-- a run with its first number, and the others
stretched : (n m g : ℕ) → (nat_le n g && nat_lt g (n + (m + 1))) ≡ ((n == g) || (nat_le (n + 1) g && nat_lt g (n + 1 + m)))
stretched n m g = elim (cases_eq n g) [
  | inl same ↦ (λ i. le-leb n g (omega (arith, same)) i && lt-ltb g (n + (m + 1)) (omega (arith, same)) i) ∙ sym (ap (λ b. b || (nat_le (n + 1) g && nat_lt g (n + 1 + m))) (eq-eqb n g same))
  | inr other ↦ elim (cases_lt g n) [
    | inl before ↦ ap (λ b. b && nat_lt g (n + (m + 1))) (not_above n g before)
        ∙ sym (λ i. ne_eqb n g other i || (not_above (n + 1) g (omega (arith, before)) i && nat_lt g (n + 1 + m)))
    | inr behind ↦ (let far : n + 1 ≤ g = omega (arith, other, behind) in
        let sum : n + (m + 1) ≡ n + 1 + m = omega arith in
        (λ i. le-leb n g behind i && nat_lt g (sum i))
        ∙ sym (λ i. ne_eqb n g other i || (le-leb (n + 1) g far i && nat_lt g (n + 1 + m))))
  ]
]

alone : (n g : ℕ) → (nat_le n g && nat_lt g (n + 1)) ≡ (n == g)
alone n g = elim (cases_eq n g) [
  | inl same ↦ (λ i. le-leb n g (omega (arith, same)) i && lt-ltb g (n + 1) (omega (arith, same)) i) ∙ sym (eq-eqb n g same)
  | inr other ↦ elim (cases_lt g n) [
    | inl before ↦ ap (λ b. b && nat_lt g (n + 1)) (not_above n g before) ∙ sym (ne_eqb n g other)
    | inr behind ↦ (λ i. le-leb n g behind i && le-ltb g (n + 1) (omega (arith, other, behind)) i) ∙ sym (ne_eqb n g other)
  ]
]

onto_has : (t : ℕ → ℕ → Bool) (n g : ℕ) (runs : List (ℕ × ℕ)) → has_in_runs (map run_from (joined_onto t n runs)) g ≡ ((n == g) || has_in_runs (map run_from runs) g)
onto_has t n g [] = ap (λ b. b || false) (alone n g)
onto_has t n g (r ∷ runs) = elim (cases_Bool ((r.0 == n + 1) && t n (n + 1))) [
  | inl joins ↦ (let next : r.0 ≡ n + 1 = eqb-true r.0 (n + 1) (and_parts (r.0 == n + 1) (t n (n + 1)) joins).0 in
      ap (λ b. has_in_runs (map run_from (if b then (n, r.1 + 1) ∷ runs else (n, 1) ∷ r ∷ runs)) g) joins
      ∙ ap (λ b. b || has_in_runs (map run_from runs) g) (stretched n r.1 g ∙ ap (λ k. (n == g) || (nat_le k g && nat_lt g (k + r.1))) (sym next))
      ∙ sym (or_assoc (n == g) (has_granule (run_from r) g) (has_in_runs (map run_from runs) g)))
  | inr apart ↦ ap (λ b. has_in_runs (map run_from (if b then (n, r.1 + 1) ∷ runs else (n, 1) ∷ r ∷ runs)) g) apart
      ∙ ap (λ b. b || (has_granule (run_from r) g || has_in_runs (map run_from runs) g)) (alone n g)
]

pub joined_has : (t : ℕ → ℕ → Bool) (ns : List ℕ) (g : ℕ) → has_in_runs (map run_from (joined t ns)) g ≡ list_any (λ n. n == g) ns
joined_has t [] g = refl
joined_has t (n ∷ ns) g = onto_has t n g (joined t ns) ∙ ap (λ b. (n == g) || b) (joined_has t ns g)

-- ---- the first of those that pass a test

pub any_taken : (q : ℕ → Bool) (n : ℕ) (ns : List ℕ) → list_any q (take n ns) ≡ true → list_any q ns ≡ true
any_taken q zero ns some = absurd (false≢true some)
any_taken q (suc n) [] some = absurd (false≢true some)
any_taken q (suc n) (m ∷ ns) some = elim (cases_Bool (q m)) [
  | inl here ↦ ap (λ b. b || list_any q ns) here
  | inr later ↦ ap (λ b. q m || b) (any_taken q n ns (sym (ap (λ b. b || list_any q (take n ns)) later) ∙ some)) ∙ or_true (q m)
]

pub passes_there : (p : ℕ → Bool) (g : ℕ) (ns : List ℕ) → list_any (λ n. n == g) (filter p ns) ≡ true → p g ≡ true
passes_there p g [] some = absurd (false≢true some)
passes_there p g (n ∷ ns) some = elim (cases_Bool (p n)) [
  | inr fails ↦ passes_there p g ns (sym (ap (λ b. list_any (λ m. m == g) (if b then n ∷ filter p ns else filter p ns)) fails) ∙ some)
  | inl pass ↦ elim (cases_eq n g) [
    | inl same ↦ subst (λ m. p m ≡ true) same pass
    | inr other ↦ passes_there p g ns
        (sym (ap (λ b. list_any (λ m. m == g) (if b then n ∷ filter p ns else filter p ns)) pass ∙ ap (λ b. b || list_any (λ m. m == g) (filter p ns)) (ne_eqb n g other)) ∙ some)
  ]
]
