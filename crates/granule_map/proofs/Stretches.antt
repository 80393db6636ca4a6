-- Numbers that pass a test, from one on up to a limit, passed one stretch after another.
use Rattle.std.proofs.Common.{◌≡◌, ℕ, zero, suc, ◌+◌, ◌-◌, ◌<◌, ◌≤◌, max, Bool, true, false, cond, List, ◌++◌, length, length-append, Some, None, refl, ap, sym, subst, ◌∙◌, eqb, leb, arith, inl, inr}
use Rattle.std.proofs.lemmas.{Bool.and_right, Bool.cases_lt, Bool.eq-eqb, Bool.le-leb, Bool.lt-leb, Bool.ne_eqb, Bool.not-false, Bool.not-true, List.Elements.filter-append}
use Rattle.std.{proofs.lemmas.List.FromFn.length-range_with_len, specs.List.filter, specs.List.find, specs.List.list_all, specs.List.prefix_len, specs.List.range_with_len, specs.Prelude.◌&&◌}
use Rattle.granule_map.proofs.{Joining.filter_each, Joining.filter_none, Joining.prefix_ends, Joining.range_split, Ranges.find_range_done, Ranges.find_range_more}
use Rattle.granule_map.proofs.RunSteps.{longest_done, longest_from, longest_more, lowest_done, lowest_more, lowest_start, run_more}
use Rattle.granule_map.specs.{Choices.run_from, Stretches.IsNext, Stretches.IsStretch, Stretches.fails}

-- a test of all numbers of a range, where each passes and where one does not
pub all_pass : (p : ℕ → Bool) (a d : ℕ) → ((k : ℕ) → a ≤ k → k < a + d → p k ≡ true) → list_all p (range_with_len a d) ≡ true
all_pass p a zero each = refl
all_pass p a (suc d) each = rw (each a (omega arith) (omega arith)) (all_pass p (a + 1) d (λ k low high. each k (omega (arith, low)) (omega (arith, high))))

pub some_fails : (p : ℕ → Bool) (a d g : ℕ) → a ≤ g → g < a + d → p g ≡ false → list_all p (range_with_len a d) ≡ false
some_fails p a zero g low high not = absurd (omega (arith, low, high))
some_fails p a (suc d) g low high not = elim (cases_lt a g) [
  | inl later ↦ and_right (p a) _ (some_fails p (a + 1) d g (omega (arith, later)) (omega (arith, high)) not)
  | inr first ↦ (let same : g ≡ a = omega (arith, low, first) in
      let here : p a ≡ false = subst (λ m. p m ≡ false) same not in
      ap (λ b. b && list_all p (range_with_len (a + 1) d)) here)
]

-- so many pass, and the next does not
pub prefix_is : (p : ℕ → Bool) (a n c : ℕ) → c ≤ n → ((k : ℕ) → a ≤ k → k < a + c → p k ≡ true) → (c < n → p (a + c) ≡ false) → prefix_len p (range_with_len a n) ≡ c
prefix_is p a zero c fits each ends = omega (arith, fits)
prefix_is p a (suc n) zero fits each ends =
    let same : a + 0 ≡ a = omega arith in
    prefix_ends p a (suc n) (subst (λ m. p m ≡ false) same (ends (omega arith)))
prefix_is p a (suc n) (suc c) fits each ends =
    let step : a + suc c ≡ a + 1 + c = omega arith in
    let rest = prefix_is p (a + 1) n c (omega (arith, fits)) (λ k low high. each k (omega (arith, low)) (omega (arith, high)))
    (λ short. subst (λ m. p m ≡ false) step (ends (omega (arith, short)))) in
    rw (each a (omega arith) (omega arith)) (omega (arith, rest))

-- numbers that do not pass are passed by, one after another
find_past : (p : ℕ → Bool) (from d n : ℕ) → ((k : ℕ) → from ≤ k → k < from + d → p k ≡ false)
    → find p (range_with_len from (n - from)) ≡ find p (range_with_len (from + d) (n - (from + d)))
find_past p from zero n none = let same : from + 0 ≡ from = omega arith in rw same refl
find_past p from (suc d) n none = elim (cases_lt from n) [
  | inl below ↦ (let step : from + suc d ≡ from + 1 + d = omega arith in
      find_range_more p from n below
      ∙ ap (λ b. cond b (Some from) (find p (range_with_len (from + 1) (n - (from + 1))))) (none from (omega arith) (omega arith))
      ∙ find_past p (from + 1) d n (λ k low high. none k (omega (arith, low)) (omega (arith, high)))
      ∙ ap (λ m. find p (range_with_len m (n - m))) (sym step))
  | inr past ↦ find_range_done p from n past ∙ sym (find_range_done p (from + suc d) n (omega (arith, past)))
]

pub find_skip : (p : ℕ → Bool) (from next n : ℕ) → from ≤ next → ((k : ℕ) → from ≤ k → k < next → p k ≡ false)
    → find p (range_with_len from (n - from)) ≡ find p (range_with_len next (n - next))
find_skip p from next n low none =
    let whole : from + (next - from) ≡ next = omega (arith, low) in
    find_past p from (next - from) n (λ k least high. none k least (omega (arith, high, whole))) ∙ ap (λ m. find p (range_with_len m (n - m))) whole

-- the next number that passes is the one that a search finds
pub next_found : (p : ℕ → Bool) (from n k : ℕ) → IsNext p from n k → k < n → find p (range_with_len from (n - from)) ≡ Some k
next_found p from n k next below =
    find_skip p from k n next.from_below next.none_before ∙ find_range_more p k n below
    ∙ ap (λ b. cond b (Some k) (find p (range_with_len (k + 1) (n - (k + 1))))) (next.passes below)

pub none_next : (p : ℕ → Bool) (from n k : ℕ) → IsNext p from n k → n ≤ k → find p (range_with_len from (n - from)) ≡ None
none_next p from n k next past = find_skip p from k n next.from_below next.none_before ∙ find_range_done p k n past

-- a search finds the first of the next stretch, and nothing where there is none
pub first_found : (p : ℕ → Bool) (n from first c : ℕ) → IsStretch p n from first c → find p (range_with_len from (n - from)) ≡ Some first
first_found p n from first c run =
    find_skip p from first n run.from_below run.none_before ∙ find_range_more p first n (omega (arith, run.some, run.within))
    ∙ ap (λ b. cond b (Some first) (find p (range_with_len (first + 1) (n - (first + 1))))) (run.each first (omega arith) (omega (arith, run.some)))

pub no_stretch : (p : ℕ → Bool) (n from : ℕ) → ((k : ℕ) → from ≤ k → k < n → p k ≡ false) → find p (range_with_len from (n - from)) ≡ None
no_stretch p n from none = elim (cases_lt n from) [
  | inl past ↦ find_range_done p from n (omega (arith, past))
  | inr low ↦ find_skip p from n n low none ∙ find_range_done p n n (omega arith)
]

-- how many pass: none where none does, and those of the next stretch before those behind it
pub count_none : (p : ℕ → Bool) (n from : ℕ) → ((k : ℕ) → from ≤ k → k < n → p k ≡ false) → length (filter p (range_with_len from (n - from))) ≡ 0
count_none p n from none = ap (λ (ks : List ℕ). length ks) (filter_none p from (n - from) (λ k low high. none k low (omega (arith, low, high))))

pub count_stretch : (p : ℕ → Bool) (n from first c : ℕ) → IsStretch p n from first c
    → length (filter p (range_with_len from (n - from))) ≡ c + length (filter p (range_with_len (first + c) (n - (first + c))))
count_stretch p n from first c run =
    let skip : from + (first - from) ≡ first = omega (arith, run.from_below) in
    let low : filter p (range_with_len from (n - from)) ≡ filter p (range_with_len first (n - first)) =
    ap (filter p) (range_split from (first - from) n (omega (arith, run.within, run.from_below)))
    ∙ filter-append p (range_with_len from (first - from)) _
    ∙ ap (λ ks. ks ++ filter p (range_with_len (from + (first - from)) (n - (from + (first - from))))) (filter_none p from (first - from) (λ k least high. run.none_before k least (omega (arith, high, skip))))
    ∙ ap (λ m. filter p (range_with_len m (n - m))) skip in
    let high : filter p (range_with_len first (n - first)) ≡ range_with_len first c ++ filter p (range_with_len (first + c) (n - (first + c))) =
    ap (filter p) (range_split first c n run.within)
    ∙ filter-append p (range_with_len first c) _
    ∙ ap (λ ks. ks ++ filter p (range_with_len (first + c) (n - (first + c)))) (filter_each p first c run.each) in
    ap (λ (ks : List ℕ). length ks) (low ∙ high) ∙ length-append (range_with_len first c) _ ∙ omega (arith, length-range_with_len first c)

-- how many lie together from one on, where so many pass and the next does not
run_is : (p : ℕ → Bool) (n k c : ℕ) → k + c ≤ n → ((j : ℕ) → k ≤ j → j < k + c → p j ≡ true) → (k + c < n → p (k + c) ≡ false) → run_from p n k ≡ c
run_is p n k c within each ends = prefix_is p k (n - k) c (omega (arith, within)) each (λ short. ends (omega (arith, short)))

run_none : (p : ℕ → Bool) (n k : ℕ) → k < n → p k ≡ false → run_from p n k ≡ 0
run_none p n k below not = run_more p n k below ∙ ap (λ b. cond b (run_from p n (k + 1) + 1) 0) not

-- the longest, past those that do not pass and past those of a stretch
longest_past : (p : ℕ → Bool) (n from d : ℕ) → from + d ≤ n → ((k : ℕ) → from ≤ k → k < from + d → p k ≡ false) → longest_from p n from ≡ longest_from p n (from + d)
longest_past p n from zero within none = let same : from + 0 ≡ from = omega arith in rw same refl
longest_past p n from (suc d) within none =
    let step : from + suc d ≡ from + 1 + d = omega arith in
    let rest = longest_past p n (from + 1) d (omega (arith, within)) (λ k low high. none k (omega (arith, low)) (omega (arith, high))) in
    omega (arith, longest_more p n from (omega (arith, within)), run_none p n from (omega (arith, within)) (none from (omega arith) (omega arith)))
    ∙ rest ∙ ap (longest_from p n) (sym step)

longest_through : (p : ℕ → Bool) (n k c : ℕ) → k + c ≤ n → ((j : ℕ) → k ≤ j → j < k + c → p j ≡ true) → (k + c < n → p (k + c) ≡ false)
    → longest_from p n k ≡ max (longest_from p n (k + c)) c
longest_through p n k zero within each ends = let same : k + 0 ≡ k = omega arith in rw same (omega arith)
longest_through p n k (suc c) within each ends =
    let step : k + suc c ≡ k + 1 + c = omega arith in
    let rest = longest_through p n (k + 1) c (omega (arith, within)) (λ j low high. each j (omega (arith, low)) (omega (arith, high)))
    (λ short. subst (λ m. p m ≡ false) step (ends (omega (arith, short)))) in
    let behind : longest_from p n (k + suc c) ≡ longest_from p n (k + 1 + c) = ap (longest_from p n) step in
    omega (arith, longest_more p n k (omega (arith, within)), run_is p n k (suc c) within each ends, rest, behind)

pub longest_none : (p : ℕ → Bool) (n from : ℕ) → from ≤ n → ((k : ℕ) → from ≤ k → k < n → p k ≡ false) → longest_from p n from ≡ 0
longest_none p n from low none =
    let whole : from + (n - from) ≡ n = omega (arith, low) in
    longest_past p n from (n - from) (omega (arith, low)) (λ k least high. none k least (omega (arith, high, whole)))
    ∙ ap (longest_from p n) whole ∙ longest_done p n

pub longest_stretch : (p : ℕ → Bool) (n from first c : ℕ) → IsStretch p n from first c → longest_from p n from ≡ max (longest_from p n (first + c)) c
longest_stretch p n from first c run =
    let skip : from + (first - from) ≡ first = omega (arith, run.from_below) in
    longest_past p n from (first - from) (omega (arith, skip, run.within)) (λ k least high. run.none_before k least (omega (arith, high, skip)))
    ∙ ap (longest_from p n) skip ∙ longest_through p n first c run.within run.each run.ends

-- the lowest place where so many lie together, past those that do not pass and past a stretch that is shorter
lowest_past : (p : ℕ → Bool) (n least from d : ℕ) → 0 < least → from + d ≤ n → ((k : ℕ) → from ≤ k → k < from + d → p k ≡ false)
    → lowest_start p n least from ≡ lowest_start p n least (from + d)
lowest_past p n least from zero some within none = let same : from + 0 ≡ from = omega arith in rw same refl
lowest_past p n least from (suc d) some within none =
    let step : from + suc d ≡ from + 1 + d = omega arith in
    let short : leb least (run_from p n from) ≡ false = lt-leb least (run_from p n from) (omega (arith, some, run_none p n from (omega (arith, within)) (none from (omega arith) (omega arith)))) in
    lowest_more p n least from (omega (arith, within)) ∙ ap (λ b. cond b (Some from) (lowest_start p n least (from + 1))) short
    ∙ lowest_past p n least (from + 1) d some (omega (arith, within)) (λ k low high. none k (omega (arith, low)) (omega (arith, high)))
    ∙ ap (lowest_start p n least) (sym step)

lowest_through : (p : ℕ → Bool) (n least k c : ℕ) → c < least → k + c ≤ n → ((j : ℕ) → k ≤ j → j < k + c → p j ≡ true) → (k + c < n → p (k + c) ≡ false)
    → lowest_start p n least k ≡ lowest_start p n least (k + c)
lowest_through p n least k zero less within each ends = let same : k + 0 ≡ k = omega arith in rw same refl
lowest_through p n least k (suc c) less within each ends =
    let step : k + suc c ≡ k + 1 + c = omega arith in
    let short : leb least (run_from p n k) ≡ false = lt-leb least (run_from p n k) (omega (arith, less, run_is p n k (suc c) within each ends)) in
    lowest_more p n least k (omega (arith, within)) ∙ ap (λ b. cond b (Some k) (lowest_start p n least (k + 1))) short
    ∙ lowest_through p n least (k + 1) c (omega (arith, less)) (omega (arith, within)) (λ j low high. each j (omega (arith, low)) (omega (arith, high)))
    (λ open_end. subst (λ m. p m ≡ false) step (ends (omega (arith, open_end))))
    ∙ ap (lowest_start p n least) (sym step)

pub lowest_none : (p : ℕ → Bool) (n least from : ℕ) → 0 < least → from ≤ n → ((k : ℕ) → from ≤ k → k < n → p k ≡ false) → lowest_start p n least from ≡ None
lowest_none p n least from some low none =
    let whole : from + (n - from) ≡ n = omega (arith, low) in
    lowest_past p n least from (n - from) some (omega (arith, low)) (λ k at_least high. none k at_least (omega (arith, high, whole)))
    ∙ ap (lowest_start p n least) whole ∙ lowest_done p n least

lowest_at_first : (p : ℕ → Bool) (n least from first c : ℕ) → 0 < least → IsStretch p n from first c → lowest_start p n least from ≡ lowest_start p n least first
lowest_at_first p n least from first c some run =
    let skip : from + (first - from) ≡ first = omega (arith, run.from_below) in
    lowest_past p n least from (first - from) some (omega (arith, skip, run.within)) (λ k at_least high. run.none_before k at_least (omega (arith, high, skip)))
    ∙ ap (lowest_start p n least) skip

pub lowest_here : (p : ℕ → Bool) (n least from first c : ℕ) → 0 < least → IsStretch p n from first c → least ≤ c → lowest_start p n least from ≡ Some first
lowest_here p n least from first c some run enough =
    let long : leb least (run_from p n first) ≡ true = le-leb least (run_from p n first) (omega (arith, enough, run_is p n first c run.within run.each run.ends)) in
    lowest_at_first p n least from first c some run
    ∙ lowest_more p n least first (omega (arith, run.some, run.within)) ∙ ap (λ b. cond b (Some first) (lowest_start p n least (first + 1))) long

pub lowest_later : (p : ℕ → Bool) (n least from first c : ℕ) → 0 < least → IsStretch p n from first c → c < least → lowest_start p n least from ≡ lowest_start p n least (first + c)
lowest_later p n least from first c some run short =
    lowest_at_first p n least from first c some run ∙ lowest_through p n least first c short run.within run.each run.ends

-- what a search for a number that fails says of those before it
pub run_of_next : (p : ℕ → Bool) (first most k : ℕ) → IsNext (fails p) first (first + most) k → k - first ≡ prefix_len p (range_with_len first most)
run_of_next p first most k next =
    let whole : first + (k - first) ≡ k = omega (arith, next.from_below) in
    sym (prefix_is p first most (k - first) (omega (arith, next.within, next.from_below))
    (λ j low high. not-false (p j) (next.none_before j low (omega (arith, high, whole))))
    (λ short. subst (λ m. p m ≡ false) (sym whole) (not-true (p k) (next.passes (omega (arith, short, whole))))))

pub all_of_next : (p : ℕ → Bool) (first many k : ℕ) → IsNext (fails p) first (first + many) k → eqb k (first + many) ≡ list_all p (range_with_len first many)
all_of_next p first many k next = elim (cases_lt k (first + many)) [
  | inl before ↦ ne_eqb k (first + many) (λ same. absurd (omega (arith, same, before)))
      ∙ sym (some_fails p first many k next.from_below before (not-true (p k) (next.passes before)))
  | inr at_end ↦ eq-eqb k (first + many) (omega (arith, at_end, next.within))
      ∙ sym (all_pass p first many (λ j low high. not-false (p j) (next.none_before j low (omega (arith, high, at_end)))))
]
