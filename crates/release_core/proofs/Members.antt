-- What it says of each member of a list that none breaks a rule.
use Rattle.std.proofs.Common.{◌≡◌, ℕ, zero, suc, ◌<◌, Bool, true, false, List, [], ◌∷◌, ◌++◌, length, take, get_or, Option, Some, None, refl, sym, ap, ◌∙◌, append-nil, append_assoc, arith}
use Rattle.extent_list.specs.dcd_codes.specs.{dcd_base.specs.declared.capacity.Extent.Extent, dcd_base.specs.Words.◌or◌, declared.rules.Rule.Rule, Rules.◌breaks◌, Rules.each_in, Rules.first_by}

-- what an index past the end reads
abbrev pub no_extent : Extent
no_extent = record { start = 0; length = 0; tag = record { 0 = [] }; sequence = 0 }

-- neither of two is there
pub neither : {X : Type 0} (a b : Option X) → (a or b) ≡ None → (a ≡ None) × (b ≡ None)
neither None b none = (refl, none)
neither (Some x) b none = absurd (cc)

-- a test whose rule is not broken
pub passes : (test : Bool) (rule : Rule) → test breaks rule ≡ None → test ≡ false
passes true rule none = absurd (cc)
passes false rule none = refl

-- a member beside those before it
first_by_at : {X : Type 0} (check : List X → X → Option Rule) (before xs : List X) (i : ℕ) (d : X) → i < length xs → first_by check before xs ≡ None → check (before ++ take i xs) (get_or xs i d) ≡ None
first_by_at check before [] i d within none = absurd (omega (arith, within))
first_by_at check before (x ∷ xs) zero d within none = ap (λ b. check b x) (append-nil before) ∙ (neither _ _ none).0
first_by_at check before (x ∷ xs) (suc i) d within none =
    ap (λ b. check b (get_or xs i d)) (sym (append_assoc before (x ∷ []) (take i xs)))
    ∙ first_by_at check (before ++ x ∷ []) xs i d (omega (arith, within)) (neither _ _ none).1

pub each_in_at : {X : Type 0} (check : List X → X → Option Rule) (xs : List X) (i : ℕ) (d : X) → i < length xs → each_in xs check ≡ None → check (take i xs) (get_or xs i d) ≡ None
each_in_at check xs i d within none = first_by_at check [] xs i d within none
