-- Entries, records and hosts that are put one after another.
use Rattle.std.proofs.Common.{◌≡◌, Bool, true, false, ◌&&◌, ℕ, zero, suc, ◌+◌, ◌<◌, List, [], ◌∷◌, ◌++◌, drop, take, length, Option, Some, None, sym, ap, subst, ◌∙◌, append-nil, append_assoc, arith}
use Rattle.std.{specs.List.flat_map, specs.List.list_all, specs.Prelude.slice_get, proofs.lemmas.Bool.and_parts, proofs.lemmas.List.flat_map_more}
use Rattle.journal_core.specs.declared.entries.Entry.{Entry}
use Rattle.journal_check.specs.kept_journal.{specs.Lending.first_entry, proofs.Lists.next_and_left, proofs.Lists.nothing_left}

-- what all members are, one of them is
pub member_has : {X : Type 0} (p : X → Bool) (xs : List X) (i : ℕ) (x : X) → list_all p xs ≡ true → slice_get xs i ≡ Some x → p x ≡ true
member_has p [] i x all is = absurd (never is)
  where
    never : None ≡ Some x → ⊥
    never y = cc
member_has p (y ∷ xs) zero x all is = ap p (inner (sym is)) ∙ (and_parts (p y) (list_all p xs) all).0
  where
    inner : Some x ≡ Some y → x ≡ y
    inner e = cc
member_has p (y ∷ xs) (suc i) x all is = member_has p xs i x (and_parts (p y) (list_all p xs) all).1 is

-- one entry more stands before those that are left
pub entry_more : (f : Entry → List ℕ) (out new all : List ℕ) (entries left : List Entry) (e : Entry) → Some e ≡ first_entry entries → left ≡ drop 1 entries
    → new ≡ out ++ f e → out ++ flat_map f entries ≡ all → new ++ flat_map f left ≡ all
entry_more f out new all entries left e first left_is is before =
    let whole : entries ≡ e ∷ drop 1 entries = next_and_left entries e first in
    ap (λ (text : List ℕ). text ++ flat_map f left) is
    ∙ append_assoc out (f e) (flat_map f left)
    ∙ ap (λ es. out ++ (f e ++ flat_map f es)) left_is
    ∙ ap (λ es. out ++ flat_map f es) (sym whole)
    ∙ before

pub entries_done : (f : Entry → List ℕ) (out all : List ℕ) (entries : List Entry) → None ≡ first_entry entries → out ++ flat_map f entries ≡ all → out ≡ all
entries_done f out all entries none before = sym (append-nil out) ∙ ap (λ es. out ++ flat_map f es) (sym (nothing_left entries none)) ∙ before

-- one member more
pub member_more : {X : Type 0} (f : X → List ℕ) (old out new : List ℕ) (xs ys : List X) (x : X) → out ≡ old ++ flat_map f xs → new ≡ out ++ f x → ys ≡ xs ++ x ∷ []
    → new ≡ old ++ flat_map f ys
member_more f old out new xs ys x before is more =
    is ∙ ap (λ (text : List ℕ). text ++ f x) before ∙ flat_map_more f old xs x ∙ ap (λ zs. old ++ flat_map f zs) (sym more)
