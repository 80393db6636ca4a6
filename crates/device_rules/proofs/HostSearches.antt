-- Whether one of the hosts passes a test that one of them alone may pass anew, or no more.
use Rattle.std.proofs.Common.{◌≡◌, ℕ, zero, suc, ◌+◌, ◌<◌, ◌≤◌, Bool, true, false, ◌&&◌, ◌||◌, ◌==◌, List, [], ◌∷◌, refl, sym, ap, ◌∙◌, arith, inl, inr}
use Rattle.std.{specs.List.list_any, specs.List.range_with_len, proofs.lemmas.Bool.cases_eq, proofs.lemmas.Bool.eq-eqb, proofs.lemmas.Bool.ne_eqb}
use Rattle.extent_list.proofs.EachTag.{or_false}

pub or_true : (b : Bool) → (b || true) ≡ true
or_true true = refl
or_true false = refl

four : (a b c d : Bool) → ((a || b) || (c || d)) ≡ ((a || c) || (b || d))
four true b c d = refl
four false true true d = refl
four false true false d = refl
four false false c d = refl

-- a test or another
pub any_or : {X : Type 0} (p q : X → Bool) (xs : List X) → list_any (λ x. p x || q x) xs ≡ (list_any p xs || list_any q xs)
any_or p q [] = refl
any_or p q (x ∷ xs) = ap (λ b. (p x || q x) || b) (any_or p q xs) ∙ four (p x) (q x) (list_any p xs) (list_any q xs)

-- a host below all others passes no test of them
past_it : (f : ℕ → Bool) (k a n : ℕ) → k < a → list_any (λ h. (k == h) && f h) (range_with_len a n) ≡ false
past_it f k a zero below = refl
past_it f k a (suc n) below =
    ap (λ b. (b && f a) || list_any (λ h. (k == h) && f h) (range_with_len (a + 1) n)) (ne_eqb k a (λ e. absurd (omega (arith, e, below))))
    ∙ past_it f k (a + 1) n (omega (arith, below))

-- a test that one number alone may pass
pub any_at : (f : ℕ → Bool) (k a n : ℕ) → a ≤ k → k < a + n → list_any (λ h. (k == h) && f h) (range_with_len a n) ≡ f k
any_at f k a zero low high = absurd (omega (arith, low, high))
any_at f k a (suc n) low high = elim (cases_eq k a) [
  | inl same ↦ (let far : k < a + 1 = omega (arith, same) in
      ap (λ b. (b && f a) || list_any (λ h. (k == h) && f h) (range_with_len (a + 1) n)) (eq-eqb k a same)
      ∙ ap (λ b. f a || b) (past_it f k (a + 1) n far)
      ∙ or_false (f a)
      ∙ ap f (sym same))
  | inr other ↦ ap (λ b. (b && f a) || list_any (λ h. (k == h) && f h) (range_with_len (a + 1) n)) (ne_eqb k a other)
      ∙ any_at f k (a + 1) n (omega (arith, low, other)) (omega (arith, high))
]

-- one host more passes the test, or none
pub any_gains : (p f : ℕ → Bool) (k n : ℕ) → k < n → list_any (λ h. p h || ((k == h) && f h)) (range_with_len 0 n) ≡ (list_any p (range_with_len 0 n) || f k)
any_gains p f k n within =
    any_or p (λ h. (k == h) && f h) (range_with_len 0 n)
    ∙ ap (λ b. list_any p (range_with_len 0 n) || b) (any_at f k 0 n (omega arith) (omega (arith, within)))

-- no host passes
pub any_none : {X : Type 0} (p : X → Bool) (xs : List X) → ((x : X) → p x ≡ false) → list_any p xs ≡ false
any_none p [] none = refl
any_none p (x ∷ xs) none = ap (λ b. b || list_any p xs) (none x) ∙ any_none p xs none
