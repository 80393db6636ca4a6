-- What follows from the steps of one call.
use Rattle.std.proofs.Common.{◌≡◌, ℕ, List, [], ◌∷◌, sym, refl, ap, ◌∙◌, subst, Option, Some}
use lib.ListN.{get_elem?}
use Rattle.atomic_table.specs.Table.{rest}
use Rattle.ruled_cells.specs.Turning.{Seated, HasTurn, IsResting, IsMoving, IsSameButTries, IsGiven, gave, still, moving_at}

module _ {X V : Type 0} (k : ℕ) where
  -- the slot that is out is the one that `exchange` asks for
  pub out : (o : Option X) (m : Seated X V) → m.1 ≡ (k, o) ∷ [] → (p : Option X) × (m.1 ≡ (k, p) ∷ rest m.1)
  out o m h = (o, h ∙ ap (λ (r : List (ℕ × Option X)). (k, o) ∷ r) (sym (ap rest h)))

  -- and it puts another value there
  pub swapped : (o p : Option X) (m n : Seated X V) → IsMoving k o m → n ≡ (m.0, (k, p) ∷ rest m.1) → n ≡ (m.0, (k, p) ∷ [])
  swapped o p m n h e = e ∙ ap (λ (r : List (ℕ × Option X)). (m.0, (k, p) ∷ r)) (ap rest h.holds)

  pub moves_on : (o p : Option X) (m n : Seated X V) → IsMoving k o m → n ≡ (m.0, (k, p) ∷ rest m.1) → IsMoving k p n
  moves_on o p m n h e = subst (IsMoving k p) (sym (swapped o p m n h e)) record { live = h.live; moves = h.moves; holds = refl; turn = h.turn }

  pub filled_moves : (number : ℕ) (x y : X) (m n : Seated X V) → IsResting number m → HasTurn m.0.taken k x → n ≡ (moving_at k m.0, (k, Some y) ∷ []) → IsMoving k (Some y) n
  filled_moves number x y m n h t e = subst (IsMoving k (Some y)) (sym e) record { live = h.live; moves = refl; holds = refl; turn = (x, t) }

module _ {X V : Type 0} where
  pub same_start : (number : ℕ) (m : Seated X V) → IsResting number m → IsSameButTries m m
  same_start number m h = (m.0.at, m.0.saw, m.0.tries, refl)

  pub same_rests : (number : ℕ) (m n : Seated X V) → IsResting number m → IsSameButTries m n → IsResting number n
  same_rests number m n h s = subst (IsResting number) (sym s.3) record { number = h.number; live = h.live; still = h.still; bare = h.bare }

  pub same_by : (P : List (Option X) → V → Type 0) (m n : Seated X V) → IsSameButTries m n → P m.0.taken m.0.client → P n.0.taken n.0.client
  same_by P m n s p = subst (λ (z : Seated X V). P z.0.taken z.0.client) (sym s.3) p

  pub given_is : (then : ℕ → V → X → X → V → Type 0) (number k : ℕ) (x y : X) (m n l : Seated X V) → HasTurn m.0.taken k x → n ≡ (moving_at k m.0, (k, Some y) ∷ [])
      → ((a b : X) → HasTurn n.0.taken k a → n.1 ≡ (k, Some b) ∷ [] → (w : V) × (l ≡ (gave n.0 k w, [])) × then k n.0.client a b w) → IsGiven then k m y l
  given_is then number k x y m n l t e f =
      let r = f x y (ap (λ (z : Seated X V). get_elem? z.0.taken k) e ∙ t) (ap (λ (z : Seated X V). z.1) e) in
      (x, r.0, t, r.1 ∙ ap (λ (z : Seated X V). (gave z.0 k r.0, [])) e, subst (λ (z : Seated X V). then k z.0.client x y r.0) e r.2)
