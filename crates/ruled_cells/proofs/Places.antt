-- Lists read at a place.
use Rattle.std.proofs.Common.{◌≡◌, ◌≢◌, ◌⊎◌, ℕ, zero, suc, ◌<◌, List, [], ◌∷◌, ◌++◌, map, length, replicate, sym, refl, ap, ◌∙◌, ⊎_elim, inl, inr, arith, Option, Some, None}
use mathlib.Core.Option.{some, some-injective, some-ne-none}
use lib.ListN.{get_elem?}

pub some_apart : (k j : ℕ) → k ≢ j → Some k ≢ Some j
some_apart k j ne e = ne (let q : k ≡ j = cc in q)

pub none_apart : (o : Option ℕ) (k : ℕ) → o ≡ None → o ≢ Some k
none_apart o k e f = (let q : ⊥ = cc in q)

module _ {A : Type 0} where
  pub at_below : (l : List A) (k : ℕ) (a : A) → get_elem? l k ≡ some a → k < length l
  at_below [] k a e = absurd (some-ne-none a (sym e))
  at_below (x ∷ xs) zero a e = omega arith
  at_below (x ∷ xs) (suc k) a e = let h : k < length xs = at_below xs k a e in omega arith

  pub at_there : (l : List A) (k : ℕ) → k < length l → (a : A) × (get_elem? l k ≡ some a)
  at_there [] k h = absurd (omega arith)
  at_there (x ∷ xs) zero h = (x, refl)
  at_there (x ∷ xs) (suc k) h = at_there xs k (omega arith)

  pub at_same : (l : List A) (k : ℕ) (a b : A) → get_elem? l k ≡ some a → get_elem? l k ≡ some b → a ≡ b
  at_same l k a b p q = some-injective a b (sym p ∙ q)

  pub at_replicate : (n k : ℕ) (a b : A) → get_elem? (replicate n a) k ≡ some b → a ≡ b
  at_replicate zero k a b e = absurd (some-ne-none b (sym e))
  at_replicate (suc n) zero a b e = some-injective a b e
  at_replicate (suc n) (suc k) a b e = at_replicate n k a b e

  pub replicate_at : (n k : ℕ) (a : A) → k < n → get_elem? (replicate n a) k ≡ some a
  replicate_at zero k a h = absurd (omega arith)
  replicate_at (suc n) zero a h = refl
  replicate_at (suc n) (suc k) a h = replicate_at n k a (omega arith)

  -- what stands at a place of a longer list stands in the front or is the last
  pub at_front : (l : List A) (a : A) (k : ℕ) → k < length l → get_elem? (l ++ a ∷ []) k ≡ get_elem? l k
  at_front [] a k h = absurd (omega arith)
  at_front (x ∷ xs) a zero h = refl
  at_front (x ∷ xs) a (suc k) h = at_front xs a k (omega arith)

  pub map_at : {B : Type 0} (f : A → B) (l : List A) (k : ℕ) (b : B) → get_elem? (map f l) k ≡ some b → (a : A) × (get_elem? l k ≡ some a) × (f a ≡ b)
  map_at f [] k b e = absurd (some-ne-none b (sym e))
  map_at f (x ∷ xs) zero b e = (x, refl, some-injective (f x) b e)
  map_at f (x ∷ xs) (suc k) b e = map_at f xs k b e

  pub none_free : (l : List (Option A)) (k : ℕ) → k < length l → ((x : A) → get_elem? l k ≢ some (Some x)) → get_elem? l k ≡ some None
  none_free [] k h nope = absurd (omega arith)
  none_free (None ∷ xs) zero h nope = refl
  none_free (Some x ∷ xs) zero h nope = absurd (nope x refl)
  none_free (o ∷ xs) (suc k) h nope = none_free xs k (omega arith) nope

  pub some_some : (x y : A) → some (Some x) ≡ some (Some y) → x ≡ y
  some_some x y e = cc

  pub some_none : (x : A) → some (Some x) ≡ some None → ⊥
  some_none x e = cc

  pub at_push : (l : List A) (a b : A) (j : ℕ) → get_elem? (l ++ a ∷ []) j ≡ some b → (get_elem? l j ≡ some b) ⊎ ((a ≡ b) × (j ≡ length l))
  at_push [] a b zero e = inr (some-injective a b e, refl)
  at_push [] a b (suc j) e = absurd (some-ne-none b (sym e))
  at_push (x ∷ xs) a b zero e = inl e
  at_push (x ∷ xs) a b (suc j) e = ⊎_elim (λ p. inl p) (λ (p : (a ≡ b) × (j ≡ length xs)). inr (p.0, ap suc p.1)) (at_push xs a b j e)

  -- the lists are one, value by value
  pub same_somes : (slots : List (Option A)) (vals : List A) → length slots ≡ length vals → ((k : ℕ) (x : A) → get_elem? vals k ≡ some x → get_elem? slots k ≡ some (Some x)) → slots ≡ map (λ x. Some x) vals
  same_somes [] [] e at = refl
  same_somes [] (x ∷ vals) e at = absurd (omega (arith, e))
  same_somes (o ∷ slots) [] e at = absurd (omega (arith, e))
  same_somes (o ∷ slots) (x ∷ vals) e at = λ i. some-injective o (Some x) (at 0 x refl) i ∷ same_somes slots vals (omega (arith, e)) (λ k y. at (suc k) y) i
