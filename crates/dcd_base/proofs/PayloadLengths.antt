-- Payloads of the length that they need.
use Rattle.std.proofs.Common.{◌≡◌, ℕ, ◌+◌, ◌*◌, true, false, cond, eqb, ltb, List, length, Ok, Err, refl, arith, eq-eqb}
use Rattle.std.proofs.lemmas.Bool.{eqb-true, ltb-true}
use Rattle.dcd_base.specs.{declared.faults.PayloadFault.PayloadFault, Payloads.sized, Payloads.counted}

pub sized_is : {X : Type 0} (need : ℕ) (payload : List ℕ) (x y : X) → sized need payload x ≡ Ok y → (length payload ≡ need) × (x ≡ y)
sized_is need payload x y e =
    elim (eqb (length payload) need) as (λ b. eqb (length payload) need ≡ b → cond b (Ok x) (Err (PayloadFault.WrongLength need (length payload))) ≡ Ok y → (length payload ≡ need) × (x ≡ y)) [
      | true ↦ λ same at. (eqb-true _ _ same, cc at)
      | false ↦ λ other at. absurd (cc at)
    ] refl e

pub sized_at : {X : Type 0} (need : ℕ) (payload : List ℕ) (x y : X) → length payload ≡ need → x ≡ y → sized need payload x ≡ Ok y
sized_at need payload x y len same = rw (eq-eqb (length payload) need len, same) refl

-- a payload of the length counted has its fixed part and its members
pub counted_is : (part each count : ℕ) (payload : List ℕ) → length payload ≡ counted part each count payload → length payload ≡ part + each * count
counted_is part each count payload e =
    elim (ltb (length payload) part) as (λ b. ltb (length payload) part ≡ b → length payload ≡ cond b part (part + each * count) → length payload ≡ part + each * count) [
      | true ↦ λ less at. absurd (omega (arith, ltb-true _ _ less, at))
      | false ↦ λ enough at. at
    ] refl e

pub counted_at : (part each count : ℕ) (payload : List ℕ) → length payload ≡ part + each * count → length payload ≡ counted part each count payload
counted_at part each count payload e =
    elim (ltb (length payload) part) as (λ b. ltb (length payload) part ≡ b → length payload ≡ cond b part (part + each * count)) [
      | true ↦ λ less. absurd (omega (arith, ltb-true _ _ less, e))
      | false ↦ λ enough. e
    ] refl
