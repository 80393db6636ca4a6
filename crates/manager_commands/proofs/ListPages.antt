-- Pages of lists.
use Rattle.std.proofs.Common.{◌≡◌, ℕ, zero, suc, ◌+◌, ◌≤◌, List, [], ◌∷◌, ◌++◌, take, drop, map, length, Some, slice_get, refl, sym, ap, ◌∙◌, arith}
use Rattle.std.{proofs.lemmas.List.drop-map, proofs.lemmas.List.take-map, proofs.lemmas.Option.none-some, proofs.lemmas.Option.same_Some, specs.List.enumerate_from, specs.List.range_with_len}
use Rattle.std.specs.Prelude.{flat_map, option_map}
use Rattle.device_state.specs.device_rules.specs.Settings.{page}

slice_get-drop : {X : Type 0} (first i : ℕ) (xs : List X) → slice_get xs (first + i) ≡ slice_get (drop first xs) i
slice_get-drop zero i xs = ap (slice_get xs) (let e : 0 + i ≡ i = omega arith in e)
slice_get-drop (suc first) i [] = ap (slice_get []) (let e : suc first + i ≡ suc (first + i) = omega arith in e)
slice_get-drop (suc first) i (x ∷ xs) = ap (slice_get (x ∷ xs)) (let e : suc first + i ≡ suc (first + i) = omega arith in e) ∙ slice_get-drop first i xs

shown_more : {X Y : Type 0} (f : X → Y) (i : ℕ) (xs : List X) (y : Y) → option_map f (slice_get xs i) ≡ Some y → map f (take (i + 1) xs) ≡ map f (take i xs) ++ y ∷ []
shown_more f i [] y at = absurd (none-some y at)
shown_more f zero (x ∷ xs) y at = ap (λ z. z ∷ []) (same_Some (f x) y at)
shown_more f (suc i) (x ∷ xs) y at = ap (λ n. map f (take n (x ∷ xs))) (let e : suc i + 1 ≡ suc (i + 1) = omega arith in e) ∙ ap (λ ys. f x ∷ ys) (shown_more f i xs y at)

-- one more is shown
pub page_more : {X Y : Type 0} (f : X → Y) (first i : ℕ) (xs : List X) (y : Y) → option_map f (slice_get xs (first + i)) ≡ Some y →
    map f (take (i + 1) (drop first xs)) ≡ map f (take i (drop first xs)) ++ y ∷ []
page_more f first i xs y at = shown_more f i (drop first xs) y (ap (option_map f) (sym (slice_get-drop first i xs)) ∙ at)

-- a page of what is shown
pub page_map : {X Y : Type 0} (f : X → Y) (first count : ℕ) (xs : List X) → page first count (map f xs) ≡ map f (page first count xs)
page_map f first count xs = ap (take count) (drop-map f first xs) ∙ take-map f count (drop first xs)

-- the pieces of what is shown
pub flat_map-map : {X Y Z : Type 0} (f : Y → List Z) (g : X → Y) (xs : List X) → flat_map f (map g xs) ≡ flat_map (λ x. f (g x)) xs
flat_map-map f g [] = refl
flat_map-map f g (x ∷ xs) = ap (λ ys. f (g x) ++ ys) (flat_map-map f g xs)

-- numbers in order, one more of them
pub range_more : (a n : ℕ) → range_with_len a (n + 1) ≡ range_with_len a n ++ (a + n) ∷ []
range_more a zero = ap (λ k. k ∷ []) (let e : a ≡ a + 0 = omega arith in e)
range_more a (suc n) =
    ap (range_with_len a) (let e : suc n + 1 ≡ suc (n + 1) = omega arith in e)
    ∙ ap (λ ns. a ∷ ns) (range_more (a + 1) n ∙ ap (λ k. range_with_len (a + 1) n ++ k ∷ []) (let e : a + 1 + n ≡ a + suc n = omega arith in e))

pub from_zero : (n : ℕ) → range_with_len 0 (n + 1) ≡ range_with_len 0 n ++ n ∷ []
from_zero n = range_more 0 n ∙ ap (λ k. range_with_len 0 n ++ k ∷ []) (let e : 0 + n ≡ n = omega arith in e)

-- the front of them
pub take_range : (k a n : ℕ) → k ≤ n → take k (range_with_len a n) ≡ range_with_len a k
take_range zero a n below = refl
take_range (suc k) a zero below = absurd (omega (arith, below))
take_range (suc k) a (suc n) below = ap (λ ns. a ∷ ns) (take_range k (a + 1) n (omega (arith, below)))

-- numbered members, one more of them
pub numbered_more : {X : Type 0} (a : ℕ) (xs : List X) (x : X) → enumerate_from a (xs ++ x ∷ []) ≡ enumerate_from a xs ++ (a + length xs, x) ∷ []
numbered_more a [] x = ap (λ n. (n, x) ∷ []) (let e : a ≡ a + 0 = omega arith in e)
numbered_more a (y ∷ xs) x =
    ap (λ ns. (a, y) ∷ ns) (numbered_more (a + 1) xs x ∙ ap (λ n. enumerate_from (a + 1) xs ++ (n, x) ∷ []) (let e : a + 1 + length xs ≡ a + suc (length xs) = omega arith in e))
