-- What a turn zeroes was dirty, and two tests that agree give the same turn.
use Rattle.std.proofs.Common.{◌≡◌, ℕ, zero, suc, ◌+◌, ◌<◌, ◌≤◌, Bool, true, List, [], ◌∷◌, map, take, eqb, leb, ltb, refl, ap, subst, arith, inl, inr}
use Rattle.std.proofs.lemmas.Bool.{and_from, and_parts, cases_Bool, cases_lt, eqb-true, false≢true, leb-true, ltb-true}
use Rattle.std.specs.{List.filter, List.list_all, List.range_with_len, Prelude.◌&&◌}
use Rattle.region_config.specs.{dcd_base.specs.Words.has_granule, dcd_base.specs.Words.has_in_runs, Configurations.Configuration, Granules.granule_total, Granules.same_region}
use Rattle.granule_map.specs.Choices.{joined, joined_onto, passing}
use Rattle.sanitizer.specs.Turns.{run_of_pair, scrub_runs, lowest_dirty}

-- runs of numbers that all pass
abbrev pass_in : (ℕ → Bool) → ℕ × ℕ → Bool
pass_in p r = list_all p (range_with_len r.0 r.1)

onto_pass : (t : ℕ → ℕ → Bool) (p : ℕ → Bool) (n : ℕ) (rs : List (ℕ × ℕ)) → p n ≡ true → list_all (pass_in p) rs ≡ true → list_all (pass_in p) (joined_onto t n rs) ≡ true
onto_pass t p n [] here rest = rw here refl
onto_pass t p n (r ∷ rs) here rest = elim (cases_Bool (eqb r.0 (n + 1) && t n (n + 1))) [
  | inl joins ↦ (let next = eqb-true r.0 (n + 1) (and_parts (eqb r.0 (n + 1)) (t n (n + 1)) joins).0 in
      let count : r.1 + 1 ≡ suc r.1 = omega arith in
      let parts = and_parts (pass_in p r) (list_all (pass_in p) rs) rest in
      let behind : list_all p (range_with_len (n + 1) r.1) ≡ true = subst (λ m. list_all p (range_with_len m r.1) ≡ true) next parts.0 in
      rw (joins, count, here, behind) parts.1)
  | inr ends ↦ rw (ends, here) rest
]

joined_pass : (t : ℕ → ℕ → Bool) (p : ℕ → Bool) (ns : List ℕ) → list_all p ns ≡ true → list_all (pass_in p) (joined t ns) ≡ true
joined_pass t p [] each = refl
joined_pass t p (n ∷ ns) each = let parts = and_parts (p n) (list_all p ns) each in onto_pass t p n (joined t ns) parts.0 (joined_pass t p ns parts.1)

filter_passes : (p : ℕ → Bool) (ns : List ℕ) → list_all p (filter p ns) ≡ true
filter_passes p [] = refl
filter_passes p (n ∷ ns) = elim (cases_Bool (p n)) [
  | inl passes ↦ rw (passes, passes) (filter_passes p ns)
  | inr fails ↦ rw fails (filter_passes p ns)
]

take_passes : (p : ℕ → Bool) (most : ℕ) (ns : List ℕ) → list_all p ns ≡ true → list_all p (take most ns) ≡ true
take_passes p zero ns each = refl
take_passes p (suc most) [] each = refl
take_passes p (suc most) (n ∷ ns) each = let parts = and_parts (p n) (list_all p ns) each in and_from (p n) (list_all p (take most ns)) parts.0 (take_passes p most ns parts.1)

range_pass : (p : ℕ → Bool) (a n g : ℕ) → list_all p (range_with_len a n) ≡ true → a ≤ g → g < a + n → p g ≡ true
range_pass p a zero g each from below = absurd (omega (arith, from, below))
range_pass p a (suc n) g each from below =
    let parts = and_parts (p a) (list_all p (range_with_len (a + 1) n)) each in
    elim (cases_lt a g) [
      | inl later ↦ range_pass p (a + 1) n g parts.1 (omega (arith, later)) (omega (arith, below))
      | inr first ↦ (let same : g ≡ a = omega (arith, from, first) in rw same parts.0)
    ]

runs_pass : (p : ℕ → Bool) (rs : List (ℕ × ℕ)) (g : ℕ) → list_all (pass_in p) rs ≡ true → has_in_runs (map run_of_pair rs) g ≡ true → p g ≡ true
runs_pass p [] g each has = absurd (false≢true has)
runs_pass p (r ∷ rs) g each has =
    let parts = and_parts (pass_in p r) (list_all (pass_in p) rs) each in
    elim (cases_Bool (has_granule (run_of_pair r) g)) [
      | inl here ↦ (let within = and_parts (leb r.0 g) (ltb g (r.0 + r.1)) here in
          range_pass p r.0 r.1 g parts.0 (leb-true r.0 g within.0) (ltb-true g (r.0 + r.1) within.1))
      | inr other ↦ runs_pass p rs g parts.1 (rw other at has)
    ]

-- each granule of a turn's runs is dirty
pub scrubbed_dirty : (c : Configuration) (dirty : ℕ → Bool) (n g : ℕ) → has_in_runs (scrub_runs c dirty n) g ≡ true → dirty g ≡ true
scrubbed_dirty c dirty n g has =
    runs_pass dirty (joined (same_region c) (lowest_dirty c dirty n)) g
    (joined_pass (same_region c) dirty (lowest_dirty c dirty n) (take_passes dirty n (passing dirty (granule_total c)) (filter_passes dirty (range_with_len 0 (granule_total c))))) has

filter_agree : (p q : ℕ → Bool) (a n : ℕ) → ((k : ℕ) → a ≤ k → k < a + n → p k ≡ q k) → filter p (range_with_len a n) ≡ filter q (range_with_len a n)
filter_agree p q a zero agree = refl
filter_agree p q a (suc n) agree =
    rw (agree a (omega arith) (omega arith), filter_agree p q (a + 1) n (λ k low high. agree k (omega (arith, low)) (omega (arith, high)))) refl

-- tests that agree on the device's granules give the same granules, and so the same runs
pub scrubbed_agree : (c : Configuration) (p q : ℕ → Bool) (n : ℕ) → ((g : ℕ) → g < granule_total c → p g ≡ q g) → lowest_dirty c p n ≡ lowest_dirty c q n
scrubbed_agree c p q n agree = ap (take n) (filter_agree p q 0 (granule_total c) (λ k low high. agree k (omega (arith, high))))

pub scrub_runs_agree : (c : Configuration) (p q : ℕ → Bool) (n : ℕ) → ((g : ℕ) → g < granule_total c → p g ≡ q g) → scrub_runs c p n ≡ scrub_runs c q n
scrub_runs_agree c p q n agree = ap (λ gs. map run_of_pair (joined (same_region c) gs)) (scrubbed_agree c p q n agree)
