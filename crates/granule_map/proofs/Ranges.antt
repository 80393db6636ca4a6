-- Numbers from one up to a limit, taken from the front.
use Rattle.std.proofs.Common.{◌≡◌, ℕ, ◌+◌, ◌-◌, ◌<◌, ◌≤◌, Bool, cond, [], ◌∷◌, Some, None, refl, ap, suc, arith}
use Rattle.std.specs.List.{find, range_with_len}

pub range_more : (k n : ℕ) → k < n → range_with_len k (n - k) ≡ k ∷ range_with_len (k + 1) (n - (k + 1))
range_more k n below = let more : n - k ≡ suc (n - (k + 1)) = omega (arith, below) in rw more refl

pub range_done : (k n : ℕ) → n ≤ k → range_with_len k (n - k) ≡ []
range_done k n past = let none : n - k ≡ 0 = omega (arith, past) in rw none refl

pub find_range_more : (p : ℕ → Bool) (k n : ℕ) → k < n → find p (range_with_len k (n - k)) ≡ cond (p k) (Some k) (find p (range_with_len (k + 1) (n - (k + 1))))
find_range_more p k n below = ap (find p) (range_more k n below)

pub find_range_done : (p : ℕ → Bool) (k n : ℕ) → n ≤ k → find p (range_with_len k (n - k)) ≡ None
find_range_done p k n past = ap (find p) (range_done k n past)
