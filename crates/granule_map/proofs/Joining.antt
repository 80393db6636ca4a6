-- Numbers that pass a test, taken from the lowest on and joined to runs.
use Rattle.std.proofs.Common.{◌≡◌, ◌⊎◌, ℕ, zero, suc, ◌+◌, ◌-◌, ◌<◌, ◌≤◌, min, Bool, true, false, List, [], ◌∷◌, ◌++◌, length, take, Some, None, refl, ap, sym, subst, ◌∙◌, eqb, arith, inl, inr}
use Rattle.std.proofs.{Math.Seq.take-append-add, lemmas.Bool.and_right, lemmas.Bool.cases_Bool, lemmas.Bool.cases_lt, lemmas.Bool.eq-eqb, lemmas.Bool.ne_eqb, lemmas.List.Elements.filter-append}
use Rattle.std.proofs.lemmas.{List.FromFn.length-range_with_len, List.Sums.prefix_len-le-length, Option.none-some, Option.same_Some}
use Rattle.std.specs.{List.filter, List.find, List.prefix_len, List.range_with_len, Prelude.◌&&◌}
use Rattle.granule_map.{specs.Choices.joined, specs.Choices.joined_onto, specs.Choices.lowest_from, proofs.Ranges.range_more}

-- numbers of which the first does not go on from this one
abbrev pub IsBehind : (ℕ → ℕ → Bool) → ℕ → List ℕ → Type 0
IsBehind t n [] = Unit {0}
IsBehind t n (m ∷ ms) = (eqb m (n + 1) && t n (n + 1)) ≡ false

onto_apart : (t : ℕ → ℕ → Bool) (n m : ℕ) (runs : List (ℕ × ℕ)) → (eqb m (n + 1) && t n (n + 1)) ≡ false
    → joined_onto t n (joined_onto t m runs) ≡ (n, 1) ∷ joined_onto t m runs
onto_apart t n m [] apart = rw apart refl
onto_apart t n m (r ∷ runs) apart = elim (cases_Bool (eqb r.0 (m + 1) && t m (m + 1))) [
  | inl joins ↦ rw joins (rw apart refl)
  | inr ends ↦ rw ends (rw apart refl)
]

-- a number that no other goes on from is a run of its own
alone : (t : ℕ → ℕ → Bool) (n : ℕ) (ns : List ℕ) → IsBehind t n ns → joined_onto t n (joined t ns) ≡ (n, 1) ∷ joined t ns
alone t n [] behind = refl
alone t n (m ∷ ms) behind = onto_apart t n m (joined t ms) behind

-- adjacent numbers are one run, where those behind them do not go on from the last
pub run_joined : (t : ℕ → ℕ → Bool) (first more : ℕ) (ns : List ℕ) → ((k : ℕ) → first ≤ k → k < first + more → t k (k + 1) ≡ true)
    → IsBehind t (first + more) ns → joined t (range_with_len first (suc more) ++ ns) ≡ (first, suc more) ∷ joined t ns
run_joined t first zero ns inside behind = let same : first + 0 ≡ first = omega arith in alone t first ns (subst (λ n. IsBehind t n ns) same behind)
run_joined t first (suc more) ns inside behind =
    let step : first + suc more ≡ first + 1 + more = omega arith in
    let rest = run_joined t (first + 1) more ns (λ k low high. inside k (omega (arith, low)) (omega (arith, high))) (subst (λ n. IsBehind t n ns) step behind) in
    let goes_on : t first (first + 1) ≡ true = inside first (omega arith) (omega arith) in
    let count : suc more + 1 ≡ suc (suc more) = omega arith in
    ap (joined_onto t first) rest ∙ rw (eq-eqb (first + 1) (first + 1) refl, goes_on, count) refl

-- numbers further up do not go on from this one
behind_from : (t : ℕ → ℕ → Bool) (p : ℕ → Bool) (n from many most : ℕ) → n + 1 < from → IsBehind t n (take most (filter p (range_with_len from many)))
behind_from t p n from many zero far = tt
behind_from t p n from zero (suc most) far = tt
behind_from t p n from (suc many) (suc most) far = elim (cases_Bool (p from)) [
  | inl here ↦ rw (here, ne_eqb from (n + 1) (λ e. absurd (omega (arith, e, far)))) refl
  | inr fails ↦ rw fails (behind_from t p n (from + 1) many (suc most) (omega (arith, far)))
]

-- a range in two parts
pub range_split : (a d n : ℕ) → a + d ≤ n → range_with_len a (n - a) ≡ range_with_len a d ++ range_with_len (a + d) (n - (a + d))
range_split a zero n fits = let same : a + 0 ≡ a = omega arith in rw same refl
range_split a (suc d) n fits =
    let step : a + suc d ≡ a + 1 + d = omega arith in
    range_more a n (omega (arith, fits)) ∙ ap (λ ks. a ∷ ks) (range_split (a + 1) d n (omega (arith, fits)))
    ∙ ap (λ m. a ∷ (range_with_len (a + 1) d ++ range_with_len m (n - m))) (sym step)

pub filter_none : (p : ℕ → Bool) (a d : ℕ) → ((k : ℕ) → a ≤ k → k < a + d → p k ≡ false) → filter p (range_with_len a d) ≡ []
filter_none p a zero none = refl
filter_none p a (suc d) none = rw (none a (omega arith) (omega arith)) (filter_none p (a + 1) d (λ k low high. none k (omega (arith, low)) (omega (arith, high))))

pub filter_each : (p : ℕ → Bool) (a d : ℕ) → ((k : ℕ) → a ≤ k → k < a + d → p k ≡ true) → filter p (range_with_len a d) ≡ range_with_len a d
filter_each p a zero each = refl
filter_each p a (suc d) each =
    rw (each a (omega arith) (omega arith)) (ap (λ ks. a ∷ ks) (filter_each p (a + 1) d (λ k low high. each k (omega (arith, low)) (omega (arith, high)))))

-- how far a prefix of a range reaches
pub prefix_passes : (p : ℕ → Bool) (a n k : ℕ) → a ≤ k → k < a + prefix_len p (range_with_len a n) → p k ≡ true
prefix_passes p a zero k low high = absurd (omega (arith, low, high))
prefix_passes p a (suc n) k low high = elim (cases_Bool (p a)) [
  | inl here ↦ elim (cases_lt a k) [
    | inl later ↦ (let reach = rw here at high in prefix_passes p (a + 1) n k (omega (arith, later)) (omega (arith, reach)))
    | inr first ↦ (let same : k ≡ a = omega (arith, low, first) in rw same here)
  ]
  | inr fails ↦ (let reach = rw fails at high in absurd (omega (arith, low, reach)))
]

pub prefix_stops : (p : ℕ → Bool) (a n : ℕ) → prefix_len p (range_with_len a n) < n → p (a + prefix_len p (range_with_len a n)) ≡ false
prefix_stops p a zero short = absurd (omega (arith, short))
prefix_stops p a (suc n) short = elim (cases_Bool (p a)) [
  | inl here ↦ (let rest = rw here at short in
      let step : a + (1 + prefix_len p (range_with_len (a + 1) n)) ≡ a + 1 + prefix_len p (range_with_len (a + 1) n) = omega arith in
      rw (here, step) (prefix_stops p (a + 1) n (omega (arith, rest))))
  | inr fails ↦ (let same : a + 0 ≡ a = omega arith in rw (fails, same) fails)
]

take_front : (first c most : ℕ) (ns : List ℕ) → c ≤ most → take most (range_with_len first c ++ ns) ≡ range_with_len first c ++ take (most - c) ns
take_front first c most ns fits =
    let whole : most ≡ length (range_with_len first c) + (most - c) = omega (arith, length-range_with_len first c, fits) in
    ap (λ m. take m (range_with_len first c ++ ns)) whole ∙ take-append-add (range_with_len first c) ns (most - c)

-- From a number on, the lowest that pass are a run of them and what is behind it.
pub record IsRunOf (p : ℕ → Bool) (n from most first c : ℕ) : Type 0 where
  pub from_below : from ≤ first
  pub some : 0 < c
  pub enough : c ≤ most
  pub within : first + c ≤ n
  pub none_before : (k : ℕ) → from ≤ k → k < first → p k ≡ false
  pub each : (k : ℕ) → first ≤ k → k < first + c → p k ≡ true

pub lowest_split : (p : ℕ → Bool) (n from most first c : ℕ) → IsRunOf p n from most first c
    → lowest_from p n from most ≡ range_with_len first c ++ lowest_from p n (first + c) (most - c)
lowest_split p n from most first c run =
    let skip : from + (first - from) ≡ first = omega (arith, run.from_below) in
    let before = filter_none p from (first - from) (λ k low high. run.none_before k low (omega (arith, high, run.from_below))) in
    let low : filter p (range_with_len from (n - from)) ≡ filter p (range_with_len first (n - first)) =
    ap (filter p) (range_split from (first - from) n (omega (arith, run.within, run.from_below)))
    ∙ filter-append p (range_with_len from (first - from)) _
    ∙ ap (λ ks. ks ++ filter p (range_with_len (from + (first - from)) (n - (from + (first - from))))) before
    ∙ ap (λ m. filter p (range_with_len m (n - m))) skip in
    let high : filter p (range_with_len first (n - first)) ≡ range_with_len first c ++ filter p (range_with_len (first + c) (n - (first + c))) =
    ap (filter p) (range_split first c n run.within)
    ∙ filter-append p (range_with_len first c) _
    ∙ ap (λ ks. ks ++ filter p (range_with_len (first + c) (n - (first + c)))) (filter_each p first c run.each) in
    ap (take most) (low ∙ high) ∙ take_front first c most (filter p (range_with_len (first + c) (n - (first + c)))) run.enough

not_together : (t : ℕ → ℕ → Bool) (last : ℕ) (ns : List ℕ) → t last (last + 1) ≡ false → IsBehind t last ns
not_together t last [] apart = tt
not_together t last (m ∷ ms) apart = and_right (eqb m (last + 1)) (t last (last + 1)) apart

-- where the run ends: all were taken, the limit is reached, the next does not pass, or may not stand with it
pub ends_there : (t : ℕ → ℕ → Bool) (p : ℕ → Bool) (n last most : ℕ)
    → (most ≡ 0) ⊎ ((n ≤ last + 1) ⊎ ((p (last + 1) ≡ false) ⊎ (t last (last + 1) ≡ false))) → IsBehind t last (lowest_from p n (last + 1) most)
ends_there t p n last most (inl done) = rw done tt
ends_there t p n last most (inr (inl past)) = let none : n - (last + 1) ≡ 0 = omega (arith, past) in rw none (behind_from t p last (last + 2) 0 most (omega arith))
ends_there t p n last most (inr (inr (inl fails))) = elim (cases_lt (last + 1) n) [
  | inl below ↦ (let next = range_more (last + 1) n below in
      rw next (rw fails (behind_from t p last (last + 1 + 1) (n - (last + 1 + 1)) most (omega arith))))
  | inr past ↦ (let none : n - (last + 1) ≡ 0 = omega (arith, past) in rw none (behind_from t p last (last + 2) 0 most (omega arith)))
]
ends_there t p n last most (inr (inr (inr apart))) = not_together t last (lowest_from p n (last + 1) most) apart

-- the next run, and the runs of what is behind it
pub next_run : (t : ℕ → ℕ → Bool) (p : ℕ → Bool) (n from most first c : ℕ) → IsRunOf p n from most first c
    → ((k : ℕ) → first ≤ k → k + 1 < first + c → t k (k + 1) ≡ true) → IsBehind t (first + c - 1) (lowest_from p n (first + c) (most - c))
    → joined t (lowest_from p n from most) ≡ (first, c) ∷ joined t (lowest_from p n (first + c) (most - c))
next_run t p n from most first c run inside behind =
    let count : c ≡ suc (c - 1) = omega (arith, run.some) in
    let last : first + c - 1 ≡ first + (c - 1) = omega (arith, run.some) in
    let rest : List ℕ = lowest_from p n (first + c) (most - c) in
    ap (joined t) (lowest_split p n from most first c run)
    ∙ ap (λ m. joined t (range_with_len first m ++ rest)) count
    ∙ run_joined t first (c - 1) rest (λ k low high. inside k low (omega (arith, high, run.some))) (subst (λ m. IsBehind t m rest) last behind)
    ∙ ap (λ m. (first, m) ∷ joined t rest) (sym count)

-- nothing is left where no number passes
pub none_left : (p : ℕ → Bool) (n from most : ℕ) → find p (range_with_len from (n - from)) ≡ None → lowest_from p n from most ≡ []
none_left p n from most none = ap (take most) (filter_of_none p (range_with_len from (n - from)) none) ∙ take_nothing most
  where
    take_nothing : (most : ℕ) → ◌≡◌ {A = List ℕ} (take most []) []
    take_nothing zero = refl
    take_nothing (suc most) = refl

    filter_of_none : (p : ℕ → Bool) (ks : List ℕ) → find p ks ≡ None → filter p ks ≡ []
    filter_of_none p [] none = refl
    filter_of_none p (k ∷ ks) none = elim (cases_Bool (p k)) [
      | inl here ↦ (let found : Some k ≡ None = rw here at none in absurd (cc found))
      | inr fails ↦ rw fails (filter_of_none p ks (rw fails at none))
    ]

-- What it means to be the lowest that passes.
pub record IsLowest (p : ℕ → Bool) (from n first : ℕ) : Type 0 where
  pub from_below : from ≤ first
  pub below : first < n
  pub passes : p first ≡ true
  pub none_before : (k : ℕ) → from ≤ k → k < first → p k ≡ false

pub lowest_found : (p : ℕ → Bool) (from many first : ℕ) → find p (range_with_len from many) ≡ Some first → IsLowest p from (from + many) first
lowest_found p from zero first found = absurd (none-some first found)
lowest_found p from (suc many) first found = elim (cases_Bool (p from)) [
  | inl here ↦ (let same : from ≡ first = same_Some from first (rw here at found) in record {
    from_below = omega (arith, same);
    below = omega (arith, same);
    passes = subst (λ k. p k ≡ true) same here;
    none_before = λ k low high. absurd (omega (arith, same, low, high));
  })
  | inr fails ↦ (let rest = lowest_found p (from + 1) many first (rw fails at found) in record {
    from_below = omega (arith, rest.from_below);
    below = omega (arith, rest.below);
    passes = rest.passes;
    none_before = λ k low high. elim (cases_lt from k) [
      | inl later ↦ rest.none_before k (omega (arith, later)) high
      | inr first_of ↦ (let same : k ≡ from = omega (arith, low, first_of) in rw same fails)
    ];
  })
]

pub prefix_ends : (p : ℕ → Bool) (a n : ℕ) → p a ≡ false → prefix_len p (range_with_len a n) ≡ 0
prefix_ends p a zero fails = refl
prefix_ends p a (suc n) fails = rw fails refl

pub prefix_goes_on : (p : ℕ → Bool) (a n : ℕ) → 0 < n → p a ≡ true → prefix_len p (range_with_len a n) ≡ 1 + prefix_len p (range_with_len (a + 1) (n - 1))
prefix_goes_on p a zero some passes = absurd (omega (arith, some))
prefix_goes_on p a (suc n) some passes = let rest : suc n - 1 ≡ n = omega arith in rw (passes, rest) refl

-- What is found of the next run: its first number, and how many pass from there on, up to an end.
pub record IsFound (p : ℕ → Bool) (n from most first end c : ℕ) : Type 0 where
  pub lowest : find p (range_with_len from (n - from)) ≡ Some first
  pub some : 0 < most
  pub end_above : first < end
  pub end_within : end ≤ n
  pub count : c ≡ prefix_len p (range_with_len first (min most (end - first)))

module _ (p : ℕ → Bool) (n from most first end c : ℕ) (f : IsFound p n from most first end c) where
  low : IsLowest p from (from + (n - from)) first
  low = lowest_found p from (n - from) first f.lowest

  pub few : c ≤ min most (end - first)
  few = omega (arith, f.count, prefix_len-le-length p (range_with_len first (min most (end - first))), length-range_with_len first (min most (end - first)))

  pub found_run : IsRunOf p n from most first c
  found_run = record {
    from_below = low.from_below;
    some = omega (arith, f.count, prefix_goes_on p first (min most (end - first)) (omega (arith, f.some, f.end_above)) low.passes);
    enough = omega (arith, few);
    within = omega (arith, few, f.end_above, f.end_within);
    none_before = low.none_before;
    each = λ k at_least high. prefix_passes p first (min most (end - first)) k at_least (omega (arith, high, f.count));
  }

  -- it ends where all were taken, at the end, or before one that does not pass
  why : (c ≡ most) ⊎ ((first + c ≡ end) ⊎ (p (first + c) ≡ false))
  why = elim (cases_lt c most) [
    | inr all ↦ inl (omega (arith, all, few))
    | inl more ↦ elim (cases_lt (first + c) end) [
      | inr past ↦ inr (inl (omega (arith, past, few, f.end_above)))
      | inl before ↦ (let short : prefix_len p (range_with_len first (min most (end - first))) < min most (end - first) = omega (arith, f.count, more, before) in
          inr (inr (ap (λ m. p (first + m)) f.count ∙ prefix_stops p first (min most (end - first)) short)))
    ]
  ]

  module _ (t : ℕ → ℕ → Bool) (border : end < n → t (end - 1) end ≡ false) where
    behind : IsBehind t (first + c - 1) (lowest_from p n (first + c) (most - c))
    behind =
        let some : 0 < c = found_run.some in
        let next : first + c ≡ first + c - 1 + 1 = omega (arith, some) in
        let ends : (most - c ≡ 0) ⊎ ((n ≤ first + c - 1 + 1) ⊎ ((p (first + c - 1 + 1) ≡ false) ⊎ (t (first + c - 1) (first + c - 1 + 1) ≡ false))) =
        elim why [
          | inl all ↦ inl (omega (arith, all))
          | inr (inl at_end) ↦ elim (cases_lt end n) [
            | inl inner ↦ (let last : first + c - 1 ≡ end - 1 = omega (arith, at_end) in
                let after : first + c - 1 + 1 ≡ end = omega (arith, at_end, some) in
                inr (inr (inr (ap (λ m. t m (first + c - 1 + 1)) last ∙ ap (t (end - 1)) after ∙ border inner))))
            | inr past ↦ inr (inl (omega (arith, past, at_end, some)))
          ]
          | inr (inr fails) ↦ inr (inr (inl (subst (λ m. p m ≡ false) next fails)))
        ] in
        subst (λ m. IsBehind t (first + c - 1) (lowest_from p n m (most - c))) (sym next) (ends_there t p n (first + c - 1) (most - c) ends)

    pub found_next : ((k : ℕ) → first ≤ k → k + 1 < end → t k (k + 1) ≡ true)
        → joined t (lowest_from p n from most) ≡ (first, c) ∷ joined t (lowest_from p n (first + c) (most - c))
    found_next inside = next_run t p n from most first c found_run (λ k at_least high. inside k at_least (omega (arith, high, few, f.end_above))) behind
