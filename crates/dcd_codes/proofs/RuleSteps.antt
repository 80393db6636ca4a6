-- A row over a list, member by member.
use Rattle.std.proofs.Common.{◌≡◌, ℕ, ◌+◌, ◌<◌, List, [], ◌∷◌, ◌++◌, length, take, drop, get_or, Option, Some, None, refl, sym, ap, ◌∙◌, append-nil, append_assoc}
use Rattle.std.proofs.lemmas.List.{take_more, take-append-drop, drop_more}
use Rattle.dcd_codes.specs.{declared.rules.Rule.Rule, Rules.first_by, Rules.each_in}
use Rattle.dcd_base.specs.Words.{◌or◌}

or_assoc : (a b c : Option Rule) → (a or (b or c)) ≡ (a or b or c)
or_assoc None b c = refl
or_assoc (Some r) b c = refl

-- a list in two parts
pub first_by-append : {X : Type 0} (check : List X → X → Option Rule) (before xs ys : List X) → first_by check before (xs ++ ys) ≡ (first_by check before xs or first_by check (before ++ xs) ys)
first_by-append check before [] ys = ap (λ b. first_by check b ys) (sym (append-nil before))
first_by-append check before (x ∷ xs) ys =
    ap (λ r. check before x or r) (first_by-append check (before ++ x ∷ []) xs ys)
    ∙ or_assoc (check before x) (first_by check (before ++ x ∷ []) xs) _
    ∙ ap (λ b. check before x or first_by check (before ++ x ∷ []) xs or first_by check b ys) (append_assoc before (x ∷ []) xs)

-- no member so far breaks a rule, and the next does not
pub each_in_more : {X : Type 0} (check : List X → X → Option Rule) (xs : List X) (i : ℕ) (d : X) → i < length xs → each_in (take i xs) check ≡ None → check (take i xs) (get_or xs i d) ≡ None → each_in (take (i + 1) xs) check ≡ None
each_in_more check xs i d lt none next =
    ap (first_by check []) (take_more xs i d lt) ∙ first_by-append check [] (take i xs) (get_or xs i d ∷ []) ∙ rw (none, next) refl

-- and the next does
pub each_in_found : {X : Type 0} (check : List X → X → Option Rule) (xs : List X) (i : ℕ) (d : X) (r : Rule) → i < length xs → each_in (take i xs) check ≡ None → check (take i xs) (get_or xs i d) ≡ Some r → each_in xs check ≡ Some r
each_in_found check xs i d r lt none found =
    ap (first_by check []) (sym (take-append-drop i xs) ∙ ap (λ ys. take i xs ++ ys) (drop_more xs i d lt))
    ∙ first_by-append check [] (take i xs) (get_or xs i d ∷ drop (i + 1) xs) ∙ rw (none, found) refl
