-- What the runs are that are chosen of free blocks: one behind another in the area, and made of free granules.
use Rattle.std.proofs.Common.{◌≡◌, ℕ, zero, suc, ◌+◌, ◌-◌, ◌*◌, ◌%◌, ◌<◌, ◌≤◌, Bool, true, false, List, [], ◌∷◌, ◌++◌, length, map, take, Option, Some, None, refl, ap, subst, ◌∙◌, eqb, leb, ltb, arith, inl, inr, div-add-mod'}
use Rattle.std.proofs.Math.Nat.{add-mul, mul-le-mul_right, zero-mul}
use Rattle.std.proofs.lemmas.{Bool.and_from, Bool.and_parts, Bool.cases_Bool, Bool.eqb-true, Bool.leb-true, Bool.lt-leb, Bool.ltb-true, List.length-map, List.length-take-le}
use Rattle.std.proofs.lemmas.List.{Folds.list_all-append, FromFn.length-range_with_len, Sums.prefix_len-le-length}
use Rattle.std.specs.{List.filter, List.list_all, List.range_with_len, Prelude.◌&&◌, Prelude.option_map, Prelude.option_to_list}
use Rattle.extent_list.specs.dcd_codes.specs.dcd_base.specs.{declared.media.Run.Run, Words.has_in_runs}
use Rattle.granule_map.{proofs.Joining.lowest_found, proofs.Joining.prefix_passes, specs.Blocks.block_count, specs.Blocks.run_of_blocks}
use Rattle.granule_map.specs.Choices.{joined, joined_onto, lowest_run, passing, run_from}
use Rattle.selection.specs.Selections.{AreApart, AreBetween, always_together, are_free, contiguous_runs, free_runs, granules_of_blocks, is_free_block}

-- rising numbers between two, and runs of numbers one behind another between two
abbrev pub NumbersBetween : ℕ → ℕ → List ℕ → Type 0
NumbersBetween from to [] = from ≤ to
NumbersBetween from to (n ∷ ns) = (from ≤ n) × NumbersBetween (n + 1) to ns

abbrev pub PairsBetween : ℕ → ℕ → List (ℕ × ℕ) → Type 0
PairsBetween from to [] = from ≤ to
PairsBetween from to (r ∷ rs) = (from ≤ r.0) × (0 < r.1) × PairsBetween (r.0 + r.1) to rs

onto_between : (t : ℕ → ℕ → Bool) (from n to : ℕ) (rs : List (ℕ × ℕ)) → from ≤ n → PairsBetween (n + 1) to rs → PairsBetween from to (joined_onto t n rs)
onto_between t from n to [] low rest = (low, omega arith, rest)
onto_between t from n to (r ∷ rs) low rest = elim (cases_Bool (eqb r.0 (n + 1) && t n (n + 1))) [
  | inl joins ↦ (let next = eqb-true r.0 (n + 1) (and_parts (eqb r.0 (n + 1)) (t n (n + 1)) joins).0 in
      let end : r.0 + r.1 ≡ n + (r.1 + 1) = omega (arith, next) in
      rw joins (low, omega arith, subst (λ m. PairsBetween m to rs) end rest.2))
  | inr ends ↦ rw ends (low, omega arith, rest)
]

pub joined_between : (t : ℕ → ℕ → Bool) (from to : ℕ) (ns : List ℕ) → NumbersBetween from to ns → PairsBetween from to (joined t ns)
joined_between t from to [] rises = rises
joined_between t from to (n ∷ ns) rises = onto_between t from n to (joined t ns) rises.0 (joined_between t (n + 1) to ns rises.1)

lower : (from less to : ℕ) (ns : List ℕ) → less ≤ from → NumbersBetween from to ns → NumbersBetween less to ns
lower from less to [] low rises = omega (arith, low, rises)
lower from less to (n ∷ ns) low rises = (omega (arith, low, rises.0), rises.1)

pub filter_between : (p : ℕ → Bool) (from many : ℕ) → NumbersBetween from (from + many) (filter p (range_with_len from many))
filter_between p from zero = omega arith
filter_between p from (suc many) =
    let end : from + 1 + many ≡ from + suc many = omega arith in
    let rest = subst (λ m. NumbersBetween (from + 1) m (filter p (range_with_len (from + 1) many))) end (filter_between p (from + 1) many) in
    elim (cases_Bool (p from)) [
      | inl passes ↦ rw passes (omega arith, rest)
      | inr fails ↦ rw fails (lower (from + 1) from (from + suc many) (filter p (range_with_len (from + 1) many)) (omega arith) rest)
    ]

reach : (from to : ℕ) (ns : List ℕ) → NumbersBetween from to ns → from ≤ to
reach from to [] rises = rises
reach from to (n ∷ ns) rises = omega (arith, rises.0, reach (n + 1) to ns rises.1)

pub take_between : (from to most : ℕ) (ns : List ℕ) → NumbersBetween from to ns → NumbersBetween from to (take most ns)
take_between from to zero ns rises = reach from to ns rises
take_between from to (suc most) [] rises = rises
take_between from to (suc most) (n ∷ ns) rises = (rises.0, take_between (n + 1) to most ns rises.1)

-- numbers that all pass, and runs of such numbers
abbrev pub pass_in : (ℕ → Bool) → ℕ × ℕ → Bool
pass_in p r = list_all p (range_with_len r.0 r.1)

onto_pass : (t : ℕ → ℕ → Bool) (p : ℕ → Bool) (n : ℕ) (rs : List (ℕ × ℕ)) → p n ≡ true → list_all (pass_in p) rs ≡ true → list_all (pass_in p) (joined_onto t n rs) ≡ true
onto_pass t p n [] here rest = rw here refl
onto_pass t p n (r ∷ rs) here rest = elim (cases_Bool (eqb r.0 (n + 1) && t n (n + 1))) [
  | inl joins ↦ (let next = eqb-true r.0 (n + 1) (and_parts (eqb r.0 (n + 1)) (t n (n + 1)) joins).0 in
      let count : r.1 + 1 ≡ suc r.1 = omega arith in
      let parts = and_parts (pass_in p r) (list_all (pass_in p) rs) rest in
      let behind : list_all p (range_with_len (n + 1) r.1) ≡ true = subst (λ m. list_all p (range_with_len m r.1) ≡ true) next parts.0 in
      rw (joins, count, here, behind) parts.1)
  | inr ends ↦ rw (ends, here) rest
]

pub joined_pass : (t : ℕ → ℕ → Bool) (p : ℕ → Bool) (ns : List ℕ) → list_all p ns ≡ true → list_all (pass_in p) (joined t ns) ≡ true
joined_pass t p [] each = refl
joined_pass t p (n ∷ ns) each = let parts = and_parts (p n) (list_all p ns) each in onto_pass t p n (joined t ns) parts.0 (joined_pass t p ns parts.1)

filter_passes : (p : ℕ → Bool) (ns : List ℕ) → list_all p (filter p ns) ≡ true
filter_passes p [] = refl
filter_passes p (n ∷ ns) = elim (cases_Bool (p n)) [
  | inl passes ↦ rw (passes, passes) (filter_passes p ns)
  | inr fails ↦ rw fails (filter_passes p ns)
]

take_passes : (p : ℕ → Bool) (most : ℕ) (ns : List ℕ) → list_all p ns ≡ true → list_all p (take most ns) ≡ true
take_passes p zero ns each = refl
take_passes p (suc most) [] each = refl
take_passes p (suc most) (n ∷ ns) each = let parts = and_parts (p n) (list_all p ns) each in and_from (p n) (list_all p (take most ns)) parts.0 (take_passes p most ns parts.1)

-- a range is the range of its first part and that of what is behind it
range_append : (a m n : ℕ) → range_with_len a (m + n) ≡ range_with_len a m ++ range_with_len (a + m) n
range_append a zero n = let same : a + 0 ≡ a = omega arith in let all : 0 + n ≡ n = omega arith in rw (same, all) refl
range_append a (suc m) n =
    let more : suc m + n ≡ suc (m + n) = omega arith in
    let step : a + suc m ≡ a + 1 + m = omega arith in
    rw (more, step) (ap (λ ks. a ∷ ks) (range_append (a + 1) m n))

module _ (free : ℕ → Bool) (area : Run) (per : ℕ) where
  -- blocks one behind another, as runs of granules
  pub blocks_between : (some : 0 < per) (from to : ℕ) (rs : List (ℕ × ℕ)) → PairsBetween from to rs → AreBetween (area.first + from * per) (area.first + to * per) (map (granules_of_blocks area per) rs)
  blocks_between some from to [] rises = omega (arith, mul-le-mul_right per rises)
  blocks_between some from to (r ∷ rs) rises =
      let end : area.first + (r.0 + r.1) * per ≡ area.first + r.0 * per + r.1 * per = omega (arith, add-mul r.0 r.1 per) in (
        omega (arith, mul-le-mul_right per rises.0),
        omega (arith, mul-le-mul_right per rises.1, some),
        subst (λ m. AreBetween m (area.first + to * per) (map (granules_of_blocks area per) rs)) end (blocks_between some (r.0 + r.1) to rs rises.2),
      )

  -- and free where the blocks are
  blocks_free : (k c : ℕ) → list_all (is_free_block free area per) (range_with_len k c) ≡ true → list_all free (range_with_len (area.first + k * per) (c * per)) ≡ true
  blocks_free k zero each = let none : 0 * per ≡ 0 = zero-mul per in rw none refl
  blocks_free k (suc c) each =
      let parts = and_parts (is_free_block free area per k) (list_all (is_free_block free area per) (range_with_len (k + 1) c)) each in
      let count : suc c * per ≡ per + c * per = omega (arith, add-mul 1 c per) in
      let next : area.first + k * per + per ≡ area.first + (k + 1) * per = omega (arith, add-mul k 1 per) in
      ap (λ m. list_all free (range_with_len (area.first + k * per) m)) count
      ∙ ap (list_all free) (range_append (area.first + k * per) per (c * per))
      ∙ list_all-append free (range_with_len (area.first + k * per) per) (range_with_len (area.first + k * per + per) (c * per))
      ∙ and_from _ _ parts.0 (ap (λ m. list_all free (range_with_len m (c * per))) next ∙ blocks_free (k + 1) c parts.1)

  runs_free : (rs : List (ℕ × ℕ)) → list_all (pass_in (is_free_block free area per)) rs ≡ true → are_free free (map (granules_of_blocks area per) rs) ≡ true
  runs_free [] each = refl
  runs_free (r ∷ rs) each =
      let parts = and_parts (pass_in (is_free_block free area per) r) (list_all (pass_in (is_free_block free area per)) rs) each in
      and_from _ _ (blocks_free r.0 r.1 parts.0) (runs_free rs parts.1)

  module _ (some : 0 < per) (whole : area.count % per ≡ 0) where
    whole_area : area.first + block_count area per * per ≡ area.first + area.count
    whole_area = omega (arith, div-add-mod' area.count per, whole)

    area_begins : area.first + 0 * per ≡ area.first
    area_begins = omega (arith, zero-mul per)

    in_area : (runs : List Run) → AreBetween (area.first + 0 * per) (area.first + block_count area per * per) runs → AreBetween area.first (area.first + area.count) runs
    in_area runs rises = subst (λ m. AreBetween m (area.first + area.count) runs) area_begins (subst (λ m. AreBetween (area.first + 0 * per) m runs) whole_area rises)

    pub free_between : (need : ℕ) → AreBetween area.first (area.first + area.count) (free_runs free area per need)
    free_between need =
        let n : ℕ = block_count area per in
        let test : ℕ → Bool = is_free_block free area per in
        in_area (free_runs free area per need)
        (blocks_between some 0 n (joined always_together (take need (passing test n)))
        (joined_between always_together 0 n (take need (passing test n))
        (take_between 0 n need (passing test n) (let end : 0 + block_count area per ≡ block_count area per = omega arith in subst (λ m. NumbersBetween 0 m (passing test n)) end (filter_between test 0 n)))))

    one_between : (need : ℕ) → 0 < need → (found : Option ℕ) → lowest_run (is_free_block free area per) (block_count area per) need ≡ found
        → AreBetween area.first (area.first + area.count) (option_to_list (option_map (run_of_blocks area per need) found))
    one_between need many None is = omega arith
    one_between need many (Some k) is =
        let n : ℕ = block_count area per in
        let test : ℕ → Bool = is_free_block free area per in
        let low = lowest_found (λ j. leb need (run_from test n j)) 0 n k is in
        let long = leb-true need (run_from test n k) low.passes in
        let fits : k + need ≤ n = omega (arith, long, low.below, prefix_len-le-length test (range_with_len k (n - k)), length-range_with_len k (n - k)) in
        let one : PairsBetween 0 n ((k, need) ∷ []) = (omega arith, many, fits) in
        in_area (run_of_blocks area per need k ∷ []) (blocks_between some 0 n ((k, need) ∷ []) one)

    pub contiguous_between : (need : ℕ) → 0 < need → AreBetween area.first (area.first + area.count) (contiguous_runs free area per need)
    contiguous_between need many = one_between need many (lowest_run (is_free_block free area per) (block_count area per) need) refl

  pub free_are_free : (need : ℕ) → are_free free (free_runs free area per need) ≡ true
  free_are_free need =
      let test : ℕ → Bool = is_free_block free area per in
      let ns : List ℕ = passing test (block_count area per) in
      runs_free (joined always_together (take need ns)) (joined_pass always_together test (take need ns) (take_passes test need ns (filter_passes test (range_with_len 0 (block_count area per)))))

  range_passes : (p : ℕ → Bool) (a n : ℕ) → ((k : ℕ) → a ≤ k → k < a + n → p k ≡ true) → list_all p (range_with_len a n) ≡ true
  range_passes p a zero each = refl
  range_passes p a (suc n) each = and_from (p a) _ (each a (omega arith) (omega arith)) (range_passes p (a + 1) n (λ k low high. each k (omega (arith, low)) (omega (arith, high))))

  one_free : (need : ℕ) (found : Option ℕ) → lowest_run (is_free_block free area per) (block_count area per) need ≡ found
      → are_free free (option_to_list (option_map (run_of_blocks area per need) found)) ≡ true
  one_free need None is = refl
  one_free need (Some k) is =
      let n : ℕ = block_count area per in
      let test : ℕ → Bool = is_free_block free area per in
      let low = lowest_found (λ j. leb need (run_from test n j)) 0 n k is in
      let long = leb-true need (run_from test n k) low.passes in
      let each = range_passes test k need (λ j from below. prefix_passes test k (n - k) j from (omega (arith, below, long))) in
      runs_free ((k, need) ∷ []) (and_from (pass_in test (k, need)) true each refl)

  pub contiguous_are_free : (need : ℕ) → are_free free (contiguous_runs free area per need) ≡ true
  contiguous_are_free need = one_free need (lowest_run (is_free_block free area per) (block_count area per) need) refl

joined_some : (t : ℕ → ℕ → Bool) (ns : List ℕ) → 0 < length ns → 0 < length (joined t ns)
joined_some t [] some = some
joined_some t (n ∷ ns) some = onto_some (joined t ns)
  where
    onto_some : (rs : List (ℕ × ℕ)) → 0 < length (joined_onto t n rs)
    onto_some [] = omega arith
    onto_some (r ∷ rs) = elim (cases_Bool (eqb r.0 (n + 1) && t n (n + 1))) [
      | inl joins ↦ rw joins (omega arith)
      | inr ends ↦ rw ends (omega arith)
    ]

-- where enough blocks are free, some run is chosen
pub free_some : (free : ℕ → Bool) (area : Run) (per need : ℕ) → 0 < need → need ≤ length (passing (is_free_block free area per) (block_count area per))
    → 0 < length (free_runs free area per need)
free_some free area per need some enough =
    let ns : List ℕ = passing (is_free_block free area per) (block_count area per) in
    let taken = length-take-le need ns enough in
    let joined_list : List (ℕ × ℕ) = joined always_together (take need ns) in
    omega (arith, length-map joined_list (granules_of_blocks area per), joined_some always_together (take need ns) (omega (arith, taken, some)))

-- runs one behind another share no granule
none_below : (from to : ℕ) (runs : List Run) (g : ℕ) → AreBetween from to runs → g < from → has_in_runs runs g ≡ false
none_below from to [] g rises below = refl
none_below from to (run ∷ runs) g rises below =
    let here : leb run.first g ≡ false = lt-leb run.first g (omega (arith, rises.0, below)) in
    rw here (none_below (run.first + run.count) to runs g rises.2 (omega (arith, rises.0, below)))

pub between_apart : (from to : ℕ) (runs : List Run) → AreBetween from to runs → AreApart runs
between_apart from to [] rises = tt
between_apart from to (run ∷ runs) rises = (
  (λ g has. let parts = and_parts (leb run.first g) (ltb g (run.first + run.count)) has in none_below (run.first + run.count) to runs g rises.2 (ltb-true g (run.first + run.count) parts.1)),
  between_apart (run.first + run.count) to runs rises.2,
)
