-- A page of the numbers of regions is the numbers from its first place on.
use Rattle.std.proofs.Common.{◌≡◌, ℕ, zero, suc, ◌+◌, ◌-◌, ◌≤◌, min, [], ◌∷◌, ◌++◌, take, drop, map, sym, ap, ◌∙◌, arith}
use Rattle.std.{specs.List.range_with_len, proofs.lemmas.List.FromFn.map-range_with_len_more}
use Rattle.device_rules.specs.Settings.{page}

drop_range : (k a n : ℕ) → drop k (range_with_len a n) ≡ range_with_len (a + k) (n - k)
drop_range zero a n =
    let e : a ≡ a + 0 = omega arith in
    let f : n ≡ n - 0 = omega arith in
    ap (λ x. range_with_len x n) e ∙ ap (λ m. range_with_len (a + 0) m) f
drop_range (suc k) a zero =
    let f : 0 ≡ 0 - suc k = omega arith in
    ap (λ m. range_with_len (a + suc k) m) f
drop_range (suc k) a (suc n) =
    let e : a + 1 + k ≡ a + suc k = omega arith in
    let f : n - k ≡ suc n - suc k = omega arith in
    drop_range k (a + 1) n ∙ ap (λ x. range_with_len x (n - k)) e ∙ ap (λ m. range_with_len (a + suc k) m) f

take_range : (k a n : ℕ) → take k (range_with_len a n) ≡ range_with_len a (min k n)
take_range zero a n =
    let f : 0 ≡ min 0 n = omega arith in
    ap (λ m. range_with_len a m) f
take_range (suc k) a zero =
    let f : 0 ≡ min (suc k) 0 = omega arith in
    ap (λ m. range_with_len a m) f
take_range (suc k) a (suc n) =
    let f : suc (min k n) ≡ min (suc k) (suc n) = omega arith in
    ap (λ xs. a ∷ xs) (take_range k (a + 1) n) ∙ ap (λ m. range_with_len a m) f

-- all of the page is there once the end is reached
pub page_done : {X : Type 0} (f : ℕ → X) (first count n at : ℕ) → at - first ≡ min count (n - first)
    → map f (range_with_len first (at - first)) ≡ map f (page first count (range_with_len 0 n))
page_done f first count n at e =
    let start : first ≡ 0 + first = omega arith in
    sym (ap (λ xs. map f (take count xs)) (drop_range first 0 n)
    ∙ ap (λ xs. map f xs) (take_range count (0 + first) (n - first))
    ∙ ap (λ x. map f (range_with_len x (min count (n - first)))) (sym start)
    ∙ ap (λ m. map f (range_with_len first m)) (sym e))

-- one more region
pub page_more : {X : Type 0} (f : ℕ → X) (first at : ℕ) → first ≤ at
    → map f (range_with_len first (at + 1 - first)) ≡ map f (range_with_len first (at - first)) ++ f at ∷ []
page_more f first at le =
    let e : at + 1 - first ≡ at - first + 1 = omega (arith, le) in
    let g : first + (at - first) ≡ at = omega (arith, le) in
    ap (λ m. map f (range_with_len first m)) e ∙ map-range_with_len_more f first (at - first) at g
