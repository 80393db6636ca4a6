-- Turns that were taken and given back, and what a seat keeps.
use Rattle.std.proofs.Common.{◌≡◌, ◌≢◌, ℕ, List, set, sym, ap, ◌∙◌, ⊎_elim, Option, Some, None}
use mathlib.Core.Option.{some}
use lib.ListN.{get_elem?}
use Rattle.atomic_table.proofs.Lists.{at_set, set_else}
use Rattle.block_shard.specs.ruled_cells.{proofs.Places.some_some, proofs.RuleSteps.rest_same, specs.Seats.IsSameSeat, specs.Turning.HasTurn, specs.Turning.NoTurn}
use Rattle.block_shard.specs.ruled_cells.specs.declared.{cell_value.CellValue.CellValue, cell_value.CellValue.TheVariants.Rest, seat.Seat.Seat}

-- a turn that was taken and given back
pub given_again : {A : Type 0} (s t u : List (Option A)) (k : ℕ) (x : A) → ((j : ℕ) → NoTurn s j) → t ≡ set s k (Some x) → u ≡ set t k None → (j : ℕ) → NoTurn u j
given_again s t u k x bare took gave j y e = ⊎_elim (λ (p : (j ≡ k) × (None ≡ Some y)). absurd (let q : None ≡ Some y = p.1 in (cc)))
    (λ (p : (j ≢ k) × (get_elem? t j ≡ some (Some y))). ⊎_elim (λ (q : (j ≡ k) × (Some x ≡ Some y)). p.0 q.0) (λ (q : (j ≢ k) × (get_elem? s j ≡ some (Some y))). bare j y q.1) (at_set s k j (Some x) (Some y) (ap (λ l. get_elem? l j) (sym took) ∙ p.1)))
    (at_set t k j None (Some y) (ap (λ l. get_elem? l j) (sym gave) ∙ e))

-- what stands at another place stays
pub still_there : {A : Type 0} (s t : List (Option A)) (k j : ℕ) (x : Option A) (o : Option A) → t ≡ set s k x → j ≢ k → get_elem? s j ≡ some o → get_elem? t j ≡ some o
still_there s t k j x o is ne e = ap (λ l. get_elem? l j) is ∙ (set_else s k j x ne ∙ e)

-- a turn has one value
pub same_cell : {F S : Type 0} (taken : List (Option (CellValue F S))) (k : ℕ) (a b : S) → HasTurn taken k (Rest a) → HasTurn taken k (Rest b) → a ≡ b
same_cell {F} {S} taken k a b p q = rest_same a b (some_some (Rest a) (Rest b) (sym p ∙ q))

pub same_twice : {F S : Type 0} (s t u : Seat F S) → IsSameSeat s t → IsSameSeat t u → IsSameSeat s u
same_twice s t u p q = record { number = q.number ∙ p.number; among = q.among ∙ p.among; place = q.place ∙ p.place }
