-- Runs of numbers that pass a test, from the highest number down.
use Rattle.std.proofs.Common.{◌≡◌, ℕ, ◌+◌, ◌-◌, ◌<◌, Bool, true, false, cond, List, [], ◌∷◌, Option, Some, None, max, map, refl, ap, ◌∙◌, leb, arith, inl, inr}
use Rattle.std.{specs.List.fold, specs.List.find, specs.List.prefix_len, specs.List.range_with_len, proofs.lemmas.Bool.cases_Bool, proofs.lemmas.Bool.leb-false, proofs.lemmas.Bool.lt-leb}
use Rattle.granule_map.{specs.Choices.longest_run, specs.Choices.lowest_run, specs.Choices.run_from, proofs.Ranges.range_done, proofs.Ranges.range_more}

-- the longest run from a number on, and the lowest number from it on at which a run of this length begins
abbrev pub longest_from : (ℕ → Bool) → ℕ → ℕ → ℕ
longest_from p n k = fold max 0 (map (run_from p n) (range_with_len k (n - k)))

abbrev pub lowest_start : (ℕ → Bool) → ℕ → ℕ → ℕ → Option ℕ
lowest_start p n least k = find (λ j. leb least (run_from p n j)) (range_with_len k (n - k))

one_more : (b : Bool) (m : ℕ) → cond b (1 + m) 0 ≡ cond b (m + 1) 0
one_more b m = elim b as (λ b. cond b (1 + m) 0 ≡ cond b (m + 1) 0) [ true ↦ omega arith | false ↦ refl ]

pub run_more : (p : ℕ → Bool) (n k : ℕ) → k < n → run_from p n k ≡ cond (p k) (run_from p n (k + 1) + 1) 0
run_more p n k below = ap (prefix_len p) (range_more k n below) ∙ one_more (p k) (run_from p n (k + 1))

pub fold_max : (a : ℕ) (xs : List ℕ) → fold max a xs ≡ max a (fold max 0 xs)
fold_max a [] = omega arith
fold_max a (x ∷ xs) = omega (arith, fold_max (max a x) xs, fold_max (max 0 x) xs)

pub longest_done : (p : ℕ → Bool) (n : ℕ) → longest_from p n n ≡ 0
longest_done p n = ap (λ ks. fold max 0 (map (run_from p n) ks)) (range_done n n (omega arith))

pub longest_more : (p : ℕ → Bool) (n k : ℕ) → k < n → longest_from p n k ≡ max (longest_from p n (k + 1)) (run_from p n k)
longest_more p n k below =
    let whole = ap (λ ks. fold max 0 (map (run_from p n) ks)) (range_more k n below) in
    whole ∙ omega (arith, fold_max (max 0 (run_from p n k)) (map (run_from p n) (range_with_len (k + 1) (n - (k + 1)))))

pub lowest_done : (p : ℕ → Bool) (n least : ℕ) → lowest_start p n least n ≡ None
lowest_done p n least = ap (find (λ j. leb least (run_from p n j))) (range_done n n (omega arith))

pub lowest_more : (p : ℕ → Bool) (n least k : ℕ) → k < n → lowest_start p n least k ≡ cond (leb least (run_from p n k)) (Some k) (lowest_start p n least (k + 1))
lowest_more p n least k below = ap (find (λ j. leb least (run_from p n j))) (range_more k n below)

-- none is as long exactly where the longest is shorter
none_from_longest : (f : ℕ → ℕ) (least : ℕ) (ks : List ℕ) → fold max 0 (map f ks) < least → find (λ k. leb least (f k)) ks ≡ None
none_from_longest f least [] below = refl
none_from_longest f least (k ∷ ks) below =
    let most = fold_max (max 0 (f k)) (map f ks) in
    let here : leb least (f k) ≡ false = lt-leb least (f k) (omega (arith, most, below)) in
    rw here (none_from_longest f least ks (omega (arith, most, below)))

longest_from_none : (f : ℕ → ℕ) (least : ℕ) (ks : List ℕ) → 0 < least → find (λ k. leb least (f k)) ks ≡ None → fold max 0 (map f ks) < least
longest_from_none f least [] some none = some
longest_from_none f least (k ∷ ks) some none = elim (cases_Bool (leb least (f k))) [
  | inl yes_it ↦ (let found : Some k ≡ None = rw yes_it at none in absurd (cc found))
  | inr no_not ↦ (let rest = rw no_not at none in
      omega (arith, fold_max (max 0 (f k)) (map f ks), longest_from_none f least ks some rest, leb-false least (f k) no_not))
]

pub below_from_none : (p : ℕ → Bool) (n least : ℕ) → 0 < least → lowest_run p n least ≡ None → longest_run p n < least
below_from_none p n least some none = longest_from_none (run_from p n) least (range_with_len 0 n) some none

pub none_from_below : (p : ℕ → Bool) (n least : ℕ) → longest_run p n < least → lowest_run p n least ≡ None
none_from_below p n least below = none_from_longest (run_from p n) least (range_with_len 0 n) below
