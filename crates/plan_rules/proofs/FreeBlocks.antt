-- How many blocks of an area are free once the lowest of them are chosen.
use Rattle.plan_rules.proofs.Filters.{filter_both}
use Rattle.std.proofs.Common.{◌≡◌, ℕ, zero, suc, ◌+◌, ◌*◌, ◌<◌, ◌≤◌, Bool, true, false, not, ◌&&◌, ◌||◌, ◌==◌, List, [], ◌∷◌, length, map, refl, ap, sym, ◌∙◌, inl, inr, arith, add-mul, length-drop, leb, ltb, mul-le-mul_right, zero-mul}
use Rattle.std.proofs.lemmas.{Bool.cases_lt, Bool.eq-eqb, Bool.le-leb, Bool.le-ltb, Bool.lt-leb, Bool.lt-ltb, Bool.ne_eqb, List.length-take-le, List.Sums.sum_by-cons}
use Rattle.std.specs.{List.AllByRecursion, List.filter, List.list_all, List.list_any, List.range_with_len, Prelude.drop, Prelude.if◌then◌else◌, Prelude.sum_by, Prelude.take}
use Rattle.dcd_base.specs.{Words.has_in_runs, declared.media.Run.Run}
use Rattle.granule_map.specs.{Blocks.block_count, Choices.joined, Choices.joined_onto, Choices.passing}
use Rattle.selection.proofs.Chosen.{NumbersBetween, filter_between}
use Rattle.selection.specs.Selections.{always_together, free_blocks, free_runs, granules_of_blocks, is_free_block}
use Rattle.isolation_laws.specs.device_rules.proofs.{RunEffects.run_from, JoinedRuns.joined_has}

-- ---- tests over a range

pub all_agree : (p q : ℕ → Bool) (a m : ℕ) → ((k : ℕ) → a ≤ k → k < a + m → p k ≡ q k) → list_all p (range_with_len a m) ≡ list_all q (range_with_len a m)
all_agree p q a zero agree = refl
all_agree p q a (suc m) agree = λ i. agree a (omega arith) (omega arith) i && all_agree p q (a + 1) m (λ k low high. agree k (omega (arith, low)) (omega (arith, high))) i

pub filter_agree : (p q : ℕ → Bool) (a m : ℕ) → ((k : ℕ) → a ≤ k → k < a + m → p k ≡ q k) → filter p (range_with_len a m) ≡ filter q (range_with_len a m)
filter_agree p q a zero agree = refl
filter_agree p q a (suc m) agree =
    let rest = filter_agree p q (a + 1) m (λ k low high. agree k (omega (arith, low)) (omega (arith, high))) in
    λ i. if agree a (omega arith) (omega arith) i then a ∷ rest i else rest i

-- ---- which blocks have a granule

module _ (area : Run) (per k g : ℕ) (low : area.first + k * per ≤ g) (high : g < area.first + k * per + per) where
  from_block : (a : ℕ) → leb (area.first + a * per) g ≡ leb a k
  from_block a = elim (cases_lt k a) [
    | inl below ↦ lt-leb _ _ (omega (arith, high, mul-le-mul_right per below, add-mul 1 k per)) ∙ sym (lt-leb a k below)
    | inr reached ↦ le-leb _ _ (omega (arith, low, mul-le-mul_right per reached)) ∙ sym (le-leb a k reached)
  ]

  to_block : (a m : ℕ) → ltb g (area.first + a * per + m * per) ≡ ltb k (a + m)
  to_block a m = elim (cases_lt k (a + m)) [
    | inl below ↦ lt-ltb _ _ (omega (arith, high, mul-le-mul_right per below, add-mul 1 k per, add-mul a m per)) ∙ sym (lt-ltb k (a + m) below)
    | inr reached ↦ le-ltb _ _ (omega (arith, low, mul-le-mul_right per reached, add-mul a m per)) ∙ sym (le-ltb k (a + m) reached)
  ]

  in_blocks : (rs : List (ℕ × ℕ)) → has_in_runs (map (granules_of_blocks area per) rs) g ≡ has_in_runs (map run_from rs) k
  in_blocks [] = refl
  in_blocks (r ∷ rs) = λ i. (from_block r.0 i && to_block r.0 r.1 i) || in_blocks rs i

  -- a granule is chosen where its block is
  pub in_chosen : (ns : List ℕ) → has_in_runs (map (granules_of_blocks area per) (joined always_together ns)) g ≡ list_any (λ n. n == k) ns
  in_chosen ns = in_blocks (joined always_together ns) ∙ joined_has always_together ns k

-- ---- numbers without the first of them

each_above : (from to : ℕ) (ns : List ℕ) → NumbersBetween from to ns → AllByRecursion (λ n. from ≤ n) ns
each_above from to [] rises = tt
each_above from to (n ∷ ns) rises = (rises.0, lower ns (each_above (n + 1) to ns rises.1))
  where
    lower : (ms : List ℕ) → AllByRecursion (λ m. n + 1 ≤ m) ms → AllByRecursion (λ m. from ≤ m) ms
    lower [] each = tt
    lower (m ∷ ms) each = (omega (arith, each.0, rises.0), lower ms each.1)

filter_alike : (p q : ℕ → Bool) (ns : List ℕ) → AllByRecursion (λ n. p n ≡ q n) ns → filter p ns ≡ filter q ns
filter_alike p q [] each = refl
filter_alike p q (n ∷ ns) each = let rest = filter_alike p q ns each.1 in λ i. if each.0 i then n ∷ rest i else rest i

filter_all : (ns : List ℕ) → filter (λ n. true) ns ≡ ns
filter_all [] = refl
filter_all (n ∷ ns) = ap (λ ms. n ∷ ms) (filter_all ns)

others_left : (from to : ℕ) (ns : List ℕ) → NumbersBetween from to ns → (m : ℕ) → filter (λ k. not (list_any (λ n. n == k) (take m ns))) ns ≡ drop m ns
others_left from to ns rises zero = filter_all ns
others_left from to [] rises (suc m) = refl
others_left from to (n ∷ ns) rises (suc m) =
    let here : (n == n) ≡ true = eq-eqb n n refl in
    let alike = each_other ns (each_above (n + 1) to ns rises.1) in
    rw here (filter_alike (λ k. not ((n == k) || list_any (λ j. j == k) (take m ns))) (λ k. not (list_any (λ j. j == k) (take m ns))) ns alike ∙ others_left (n + 1) to ns rises.1 m)
  where
    each_other : (ms : List ℕ) → AllByRecursion (λ k. n + 1 ≤ k) ms → AllByRecursion (λ k. not ((n == k) || list_any (λ j. j == k) (take m ns)) ≡ not (list_any (λ j. j == k) (take m ns))) ms
    each_other [] each = tt
    each_other (k ∷ ms) each = (ap (λ b. not (b || list_any (λ j. j == k) (take m ns))) (ne_eqb n k (λ e. absurd (omega (arith, e, each.0)))), each_other ms each.1)

-- ---- the blocks of the area

module _ (free : ℕ → Bool) (area : Run) (per need : ℕ) (some : 0 < per) where
  abbrev chosen : List ℕ
  chosen = take need (passing (is_free_block free area per) (block_count area per))

  -- what is free then
  abbrev pub free_then : ℕ → Bool
  free_then g = free g && not (has_in_runs (free_runs free area per need) g)

  one_block : (k : ℕ) → is_free_block free_then area per k ≡ (is_free_block free area per k && not (list_any (λ n. n == k) chosen))
  one_block k = by (list_any (λ n. n == k) chosen) refl
    where
      a : ℕ
      a = area.first + k * per

      first_fails : (m : ℕ) (p : ℕ → Bool) → 0 < m → p (area.first + k * per) ≡ false → list_all p (range_with_len (area.first + k * per) m) ≡ false
      first_fails zero p more fails = absurd (omega (arith, more))
      first_fails (suc m) p more fails = rw fails refl

      and_false : (b : Bool) → (b && false) ≡ false
      and_false true = refl
      and_false false = refl

      and_true : (b : Bool) → (b && true) ≡ b
      and_true true = refl
      and_true false = refl

      by : (gone : Bool) → list_any (λ n. n == k) chosen ≡ gone → is_free_block free_then area per k ≡ (is_free_block free area per k && not gone)
      by true is =
          let taken : has_in_runs (free_runs free area per need) (area.first + k * per) ≡ true = in_chosen area per k (area.first + k * per) (omega arith) (omega (arith, some)) chosen ∙ is in
          first_fails per free_then some (ap (λ b. free (area.first + k * per) && not b) taken ∙ and_false (free (area.first + k * per))) ∙ sym (and_false (is_free_block free area per k))
      by false is =
          all_agree free_then free (area.first + k * per) per (λ g low high. ap (λ b. free g && not b) (in_chosen area per k g low high chosen ∙ is) ∙ and_true (free g)) ∙ sym (and_true (is_free_block free area per k))

  pub blocks_gone : need ≤ free_blocks free area per → free_blocks free_then area per + need ≡ free_blocks free area per
  blocks_gone enough =
      let n : ℕ = block_count area per in
      let test : ℕ → Bool = is_free_block free area per in
      let rises = filter_between test 0 (block_count area per) in
      let left : passing (is_free_block free_then area per) (block_count area per) ≡ drop need (passing (is_free_block free area per) (block_count area per)) =
      (λ i. filter (λ k. one_block k i) (range_with_len 0 n)) ∙ sym (filter_both test (λ k. not (list_any (λ m. m == k) chosen)) (range_with_len 0 n)) ∙ others_left 0 (0 + n) (passing test n) rises need in
      omega (arith, ap length left, length-drop need (passing test n), enough)

-- ---- how many blocks the runs have

abbrev length_in : ℕ × ℕ → ℕ
length_in r = r.1

abbrev pub granules_in : Run → ℕ
granules_in run = run.count

sum_joined : (ns : List ℕ) → sum_by length_in (joined always_together ns) ≡ length ns
sum_joined [] = refl
sum_joined (n ∷ ns) = onto (joined always_together ns) ∙ ap suc (sum_joined ns)
  where
    onto : (rs : List (ℕ × ℕ)) → sum_by length_in (joined_onto always_together n rs) ≡ suc (sum_by length_in rs)
    onto [] = refl
    onto (r ∷ rs) =
        let joint : sum_by length_in ((n, r.1 + 1) ∷ rs) ≡ suc (sum_by length_in (r ∷ rs)) = omega (arith, sum_by-cons length_in (n, r.1 + 1) rs, sum_by-cons length_in r rs) in
        let single : sum_by length_in ((n, 1) ∷ r ∷ rs) ≡ suc (sum_by length_in (r ∷ rs)) = omega (arith, sum_by-cons length_in (n, 1) (r ∷ rs)) in
        by ((r.0 == n + 1) && true) joint single
      where
        by : (b : Bool) → sum_by length_in ((n, r.1 + 1) ∷ rs) ≡ suc (sum_by length_in (r ∷ rs)) → sum_by length_in ((n, 1) ∷ r ∷ rs) ≡ suc (sum_by length_in (r ∷ rs))
            → sum_by length_in (if b then (n, r.1 + 1) ∷ rs else (n, 1) ∷ r ∷ rs) ≡ suc (sum_by length_in (r ∷ rs))
        by true joint single = joint
        by false joint single = single

pub sum_runs : (free : ℕ → Bool) (area : Run) (per need : ℕ) → need ≤ free_blocks free area per → sum_by granules_in (free_runs free area per need) ≡ need * per
sum_runs free area per need enough =
    let ns : List ℕ = take need (passing (is_free_block free area per) (block_count area per)) in
    granules (joined always_together ns) ∙ ap (λ m. m * per) (sum_joined ns ∙ length-take-le need (passing (is_free_block free area per) (block_count area per)) enough)
  where
    granules : (rs : List (ℕ × ℕ)) → sum_by granules_in (map (granules_of_blocks area per) rs) ≡ sum_by length_in rs * per
    granules [] = sym (zero-mul per)
    granules (r ∷ rs) =
        sum_by-cons granules_in (granules_of_blocks area per r) (map (granules_of_blocks area per) rs) ∙ ap (λ m. r.1 * per + m) (granules rs)
        ∙ sym (ap (λ m. m * per) (sum_by-cons length_in r rs) ∙ add-mul r.1 (sum_by length_in rs) per)
