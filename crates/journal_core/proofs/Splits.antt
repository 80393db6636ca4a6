-- The parts and the places of a list of which all, or all pairs, are so.
use Rattle.std.proofs.Common.{◌≡◌, ℕ, zero, suc, ◌<◌, List, [], ◌∷◌, ◌++◌, length, refl, sym, subst, arith}
use Rattle.std.proofs.lemmas.List.Elements.{All-cons, All-head, All-nil, All-tail}
use Rattle.std.specs.Prelude.{All, AllPairs}
use mathlib.Core.Option.{some, some-injective, some-ne-none}
use lib.ListN.{get_elem?}

module _ {X : Type 0} where
  pub all_before : (P : X → Type 0) (a b : List X) → All P (a ++ b) → All P a
  all_before P [] b all = All-nil P
  all_before P (x ∷ a) b all = All-cons P x a (All-head P x (a ++ b) all) (all_before P a b (All-tail P x (a ++ b) all))

  pub all_behind : (P : X → Type 0) (a b : List X) → All P (a ++ b) → All P b
  all_behind P [] b all = all
  all_behind P (x ∷ a) b all = all_behind P a b (All-tail P x (a ++ b) all)

  pub all_both : (P Q : X → Type 0) (xs : List X) → All P xs → All Q xs → All (λ x. P x × Q x) xs
  all_both P Q xs p q = λ k d under. (p k d under, q k d under)

  -- ---- pairs

  pub pairs_tail : (R : X → X → Type 0) (x : X) (xs : List X) → AllPairs R (x ∷ xs) → AllPairs R xs
  pairs_tail R x xs all = λ i j d first under. all (suc i) (suc j) d (omega (arith, first)) (omega (arith, under))

  pub pairs_head : (R : X → X → Type 0) (x : X) (xs : List X) → AllPairs R (x ∷ xs) → All (R x) xs
  pairs_head R x xs all = λ k d under. all 0 (suc k) d (omega arith) (omega (arith, under))

  -- what stands before an element, and what stands behind it
  pub pairs_before : (R : X → X → Type 0) (a : List X) (x : X) (b : List X) → AllPairs R (a ++ x ∷ b) → All (λ y. R y x) a
  pairs_before R [] x b all = All-nil (λ y. R y x)
  pairs_before R (y ∷ a) x b all =
      All-cons (λ z. R z x) y a (All-head (R y) x b (all_behind (R y) a (x ∷ b) (pairs_head R y (a ++ x ∷ b) all))) (pairs_before R a x b (pairs_tail R y (a ++ x ∷ b) all))

  pub pairs_behind : (R : X → X → Type 0) (a : List X) (x : X) (b : List X) → AllPairs R (a ++ x ∷ b) → All (R x) b
  pairs_behind R [] x b all = pairs_head R x b all
  pairs_behind R (y ∷ a) x b all = pairs_behind R a x b (pairs_tail R y (a ++ x ∷ b) all)

  -- ---- places

  -- an element behind a front stands at its length
  pub at_length : (a : List X) (x : X) (b : List X) → get_elem? (a ++ x ∷ b) (length a) ≡ some x
  at_length [] x b = refl
  at_length (y ∷ a) x b = at_length a x b

  pub at_in_front : (a b : List X) (k : ℕ) → k < length a → get_elem? (a ++ b) k ≡ get_elem? a k
  at_in_front [] b k under = absurd (omega (arith, under))
  at_in_front (y ∷ a) b zero under = refl
  at_in_front (y ∷ a) b (suc k) under = at_in_front a b k (omega (arith, under))

  pub at_some : (a : List X) (k : ℕ) → k < length a → (x : X) × (get_elem? a k ≡ some x)
  at_some [] k under = absurd (omega (arith, under))
  at_some (x ∷ a) zero under = (x, refl)
  at_some (x ∷ a) (suc k) under = at_some a k (omega (arith, under))

  pub all_at : (P : X → Type 0) (a : List X) (k : ℕ) (x : X) → get_elem? a k ≡ some x → All P a → P x
  all_at P [] k x is all = absurd (some-ne-none x (sym is))
  all_at P (y ∷ a) zero x is all = subst P (some-injective y x is) (All-head P y a all)
  all_at P (y ∷ a) (suc k) x is all = all_at P a k x is (All-tail P y a all)

  pub all_from_places : (P : X → Type 0) (a : List X) → ((k : ℕ) (x : X) → get_elem? a k ≡ some x → P x) → All P a
  all_from_places P [] each = All-nil P
  all_from_places P (y ∷ a) each = All-cons P y a (each 0 y refl) (all_from_places P a (λ k x is. each (suc k) x is))
