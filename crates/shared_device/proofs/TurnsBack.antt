-- Turns that are taken and given back.
use Rattle.std.proofs.Common.{◌≡◌, ◌≢◌, ℕ, zero, suc, List, [], ◌∷◌, set, refl, ap, ⊎_elim, Option, Some, None}
use lib.ListN.{get_elem?}
use Rattle.atomic_table.proofs.Lists.{at_set}
use Rattle.block_shard.specs.ruled_cells.specs.Turning.{NoTurn}

module _ {A : Type 0} where
  -- a turn that was not had is taken and given back
  pub set_back : (l : List (Option A)) (k : ℕ) (x : A) → NoTurn l k → set (set l k (Some x)) k None ≡ l
  set_back [] k x bare = refl
  set_back (None ∷ l) zero x bare = refl
  set_back (Some y ∷ l) zero x bare = absurd (bare y refl)
  set_back (o ∷ l) (suc k) x bare = ap (λ m. o ∷ m) (set_back l k x bare)

  -- the only turn is given back
  pub last_given : (l : List (Option A)) → ((k : ℕ) → NoTurn l (suc k)) → (k : ℕ) → NoTurn (set l 0 None) k
  last_given l bare zero y e = ⊎_elim (λ (p : (0 ≡ 0) × (None ≡ Some y)). absurd (let q : None ≡ Some y = p.1 in (cc))) (λ (p : (0 ≢ 0) × (get_elem? l 0 ≡ _)). absurd (p.0 refl)) (at_set l 0 0 None (Some y) e)
  last_given l bare (suc k) y e = ⊎_elim (λ (p : (suc k ≡ 0) × (None ≡ Some y)). absurd (let q : None ≡ Some y = p.1 in (cc))) (λ (p : (suc k ≢ 0) × (get_elem? l (suc k) ≡ _)). bare k y p.1) (at_set l 0 (suc k) None (Some y) e)
