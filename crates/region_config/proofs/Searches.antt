-- The first fault of a range of numbers: how a loop finds it, and what it means that there is none.
use Rattle.std.proofs.Common.{◌≡◌, ℕ, zero, suc, ◌+◌, ◌<◌, Bool, true, false, Option, Some, None, refl, inl, inr, add-one, arith}
use Rattle.std.proofs.lemmas.Bool.{cases_lt}
use Rattle.dcd_base.specs.Words.{◌or◌}
use Rattle.region_config.specs.Setups.{faults, first_below}

-- one number more has none
pub first_more : {F : Type 0} (check : ℕ → Option F) (k : ℕ) → first_below check k ≡ None → check k ≡ None → first_below check (k + 1) ≡ None
first_more check k before here = rw (add-one, before, here) refl

-- the first that has one
pub first_found : {F : Type 0} (check : ℕ → Option F) (n k : ℕ) (fault : F) → k < n → first_below check k ≡ None → check k ≡ Some fault → first_below check n ≡ Some fault
first_found check zero k fault within before here = absurd (omega (arith, within))
first_found check (suc n) k fault within before here = elim (cases_lt k n) [
  | inl less ↦ rw (first_found check n k fault less before here) refl
  | inr last ↦ (let same : k ≡ n = omega (arith, within, last) in rw (← same, before, here) refl)
]

pub found : {F : Type 0} (test : ℕ → Bool) (fault : ℕ → F) (n k : ℕ) → k < n → first_below (λ r. faults (test r) (fault r)) k ≡ None → test k ≡ true → first_below (λ r. faults (test r) (fault r)) n ≡ Some (fault k)
found test fault n k within before here = first_found (λ r. faults (test r) (fault r)) n k (fault k) within before (rw here refl)

pub none_more : {F : Type 0} (test : ℕ → Bool) (fault : ℕ → F) (k : ℕ) → first_below (λ r. faults (test r) (fault r)) k ≡ None → test k ≡ false → first_below (λ r. faults (test r) (fault r)) (k + 1) ≡ None
none_more test fault k before here = first_more (λ r. faults (test r) (fault r)) k before (rw here refl)

-- neither of two is there
pub or_parts : {F : Type 0} (a b : Option F) → a or b ≡ None → (a ≡ None) × (b ≡ None)
or_parts None b none = (refl, none)
or_parts (Some x) b none = absurd (cc)

-- where there is none, no number below has one
pub none_at : {F : Type 0} (check : ℕ → Option F) (n k : ℕ) → first_below check n ≡ None → k < n → check k ≡ None
none_at check zero k none within = absurd (omega (arith, within))
none_at check (suc n) k none within =
    let parts = or_parts (first_below check n) (check n) none in
    elim (cases_lt k n) [
      | inl less ↦ none_at check n k parts.0 less
      | inr last ↦ (let same : k ≡ n = omega (arith, within, last) in rw same parts.1)
    ]

pub none_from : {F : Type 0} (check : ℕ → Option F) (n : ℕ) → ((k : ℕ) → k < n → check k ≡ None) → first_below check n ≡ None
none_from check zero each = refl
none_from check (suc n) each = rw (none_from check n (λ k less. each k (omega (arith, less))), each n (omega arith)) refl

pub fails : {F : Type 0} (test : Bool) (fault : F) → faults test fault ≡ None → test ≡ false
fails true fault none = absurd (cc)
fails false fault none = refl

pub no_fault : {F : Type 0} (test : Bool) (fault : F) → test ≡ false → faults test fault ≡ None
no_fault test fault fails = rw fails refl
