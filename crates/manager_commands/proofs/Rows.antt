-- Rows of rules, rule by rule.
use Rattle.std.proofs.Common.{◌≡◌, ℕ, ◌<◌, ◌≤◌, Bool, true, false, List, [], ◌∷◌, ◌++◌, Option, Some, None, Result, Ok, Err, inl, inr, refl, ap, ◌∙◌, arith, ltb, leb}
use Rattle.std.proofs.lemmas.Bool.{cases_Bool, leb-true, ltb-true}
use Rattle.event_records.specs.dcd_base.specs.Words.{◌or◌}
use Rattle.extent_list.specs.dcd_codes.{proofs.RuleSteps.first_by-append, specs.Rules.◌breaks◌, specs.Rules.ByRow, specs.Rules.each_in, specs.Rules.first_by, specs.declared.refusals.Refusal.Refusal}
use Rattle.extent_list.specs.dcd_codes.specs.declared.rules.Rule.{Rule}

-- tests of numbers that fail
pub not_below : (a b : ℕ) → b ≤ a → ltb a b ≡ false
not_below a b above = elim (cases_Bool (ltb a b)) [
  | inl below ↦ absurd (omega (arith, ltb-true a b below, above))
  | inr fails ↦ fails
]

pub not_up_to : (a b : ℕ) → b < a → leb a b ≡ false
not_up_to a b above = elim (cases_Bool (leb a b)) [
  | inl below ↦ absurd (omega (arith, leb-true a b below, above))
  | inr fails ↦ fails
]

-- a rule that is kept, and one that is broken
pub kept_rule : (b : Bool) (rule : Rule) → b ≡ false → (b breaks rule) ≡ None
kept_rule b rule kept = ap (λ t. t breaks rule) kept

pub broken_rule : (b : Bool) (rule : Rule) → b ≡ true → (b breaks rule) ≡ Some rule
broken_rule b rule broken = ap (λ t. t breaks rule) broken

pub first_kept : (first rest found : Option Rule) → first ≡ None → rest ≡ found → (first or rest) ≡ found
first_kept first rest found kept is = rw kept is

-- a row of two rules that are kept
pub both_kept : (first rest : Option Rule) → first ≡ None → rest ≡ None → (first or rest) ≡ None
both_kept first rest none rest_none = rw none rest_none

or_none : (o : Option Rule) → (o or None) ≡ o
or_none None = refl
or_none (Some rule) = refl

-- one member more, where no other breaks a rule
pub each_in-push : {X : Type 0} (check : List X → X → Option Rule) (xs : List X) (x : X) → each_in xs check ≡ None → each_in (xs ++ x ∷ []) check ≡ check xs x
each_in-push check xs x none = first_by-append check [] xs (x ∷ []) ∙ ap (λ (o : Option Rule). o or first_by check xs (x ∷ [])) none ∙ or_none (check xs x)

-- a refusal is one, whatever was to be made
pub refused : {X Y : Type 0} (row : Option Rule) (Makes : X → Type 0) (Other : Y → Type 0) (refusal : Refusal) → ByRow row Makes (Err refusal) → ByRow row Other (Err refusal)
refused row Makes Other (Refusal.Broken rule) is = is
refused row Makes Other Refusal.NoMemory is = tt

-- a refusal of one row is one of another in which the rule comes first too
pub passed_on : {X Y : Type 0} (row other : Option Rule) (Makes : X → Type 0) (Other : Y → Type 0) (refusal : Refusal) → ((rule : Rule) → row ≡ Some rule → other ≡ Some rule) →
    ByRow row Makes (Err refusal) → ByRow other Other (Err refusal)
passed_on row other Makes Other (Refusal.Broken rule) first is = first rule is
passed_on row other Makes Other Refusal.NoMemory first is = tt

-- the same row, and more that is made
pub made_of : {X : Type 0} (row other : Option Rule) (Makes Other : X → Type 0) (result : Result X Refusal) → other ≡ row → ((x : X) → Makes x → Other x) →
    ByRow row Makes result → ByRow other Other result
made_of row other Makes Other (Ok x) same makes is = (same ∙ is.0, makes x is.1)
made_of row other Makes Other (Err (Refusal.Broken rule)) same makes is = same ∙ is
made_of row other Makes Other (Err Refusal.NoMemory) same makes is = tt
