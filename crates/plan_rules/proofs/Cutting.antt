-- What is left of a list once extents of it are cut out.
use Rattle.std.proofs.Common.{◌≡◌, ℕ, ◌+◌, ◌<◌, Bool, true, false, not, List, [], ◌∷◌, ◌++◌, refl, ap, sym, ◌∙◌, inl, inr, arith, append_assoc, leb, ltb}
use Rattle.std.proofs.lemmas.Bool.{and_from, cases_Bool, false≢true, false_from_ne_true, le-leb, le-ltb, lt-ltb}
use Rattle.std.specs.List.{AllByRecursion, filter}
use Rattle.dcd_base.specs.declared.capacity.Extent.{Extent}
use Rattle.extent_list.specs.ExtentLists.{cut, cut_all, has_range, lies_in, overlaps, piece}
use Rattle.isolation_laws.specs.device_rules.proofs.{ListSteps.each-append, ListSteps.each-both, AllLeave.Behind, CutSteps.lies}

-- no extent lies in one before it
abbrev pub Outside : List Extent → Type 0
Outside [] = Unit {0}
Outside (x ∷ xs) = AllByRecursion (λ y. lies_in y x ≡ false) xs × Outside xs

-- what shares no address with an extent does not lie in it
pub apart_outside : (y x : Extent) → 0 < y.length → overlaps y x ≡ false → lies_in y x ≡ false
apart_outside y x some apart = false_from_ne_true (lies_in y x) (λ inside.
    let l = lies y x inside in
    false≢true (sym apart ∙ and_from (ltb y.start (x.start + x.length)) (ltb x.start (y.start + y.length)) (lt-ltb _ _ (omega (arith, l.ends, some))) (lt-ltb _ _ (omega (arith, l.begins, some)))))

pub outside_from : (xs : List Extent) → AllByRecursion (λ y. 0 < y.length) xs → Behind xs → Outside xs
outside_from [] some behind = tt
outside_from (x ∷ xs) some behind =
    (each-both (λ y. 0 < y.length) (λ y. overlaps y x ≡ false) (λ y. lies_in y x ≡ false) (λ y a b. apart_outside y x a b) xs some.1 behind.0, outside_from xs some.1 behind.1)

-- ---- one cut

nothing_between : (x : Extent) (from : ℕ) → piece x from from ≡ []
nothing_between x from = rw (le-ltb from from (omega arith)) refl

pub cut_whole : (x : Extent) (xs : List Extent) → cut x.start x.length (x ∷ xs) ≡ xs
cut_whole x xs =
    let inside : has_range x.start x.length x ≡ true = and_from (leb x.start x.start) (leb (x.start + x.length) (x.start + x.length)) (le-leb _ _ (omega arith)) (le-leb _ _ (omega arith)) in
    rw (inside, nothing_between x x.start, nothing_between x (x.start + x.length)) refl

pub cut_skips : (y : Extent) (front rest : List Extent) → AllByRecursion (λ a. lies_in y a ≡ false) front → cut y.start y.length (front ++ rest) ≡ front ++ cut y.start y.length rest
cut_skips y [] rest each = refl
cut_skips y (a ∷ front) rest each = rw each.0 (ap (λ xs. a ∷ xs) (cut_skips y front rest each.1))

-- ---- all that pass a test

pub cut_those : (test : Extent → Bool) (front xs : List Extent) → AllByRecursion (λ y. AllByRecursion (λ a. lies_in y a ≡ false) front) xs → Outside xs
    → cut_all (filter test xs) (front ++ xs) ≡ front ++ filter (λ x. not (test x)) xs
cut_those test front [] apart outside = refl
cut_those test front (x ∷ xs) apart outside = elim (cases_Bool (test x)) [
  | inl passes ↦ (let gone : cut x.start x.length (front ++ x ∷ xs) ≡ front ++ xs = cut_skips x front (x ∷ xs) apart.0 ∙ ap (λ ys. front ++ ys) (cut_whole x xs) in
      rw passes (ap (cut_all (filter test xs)) gone ∙ cut_those test front xs apart.1 outside.1))
  | inr stays ↦ (let behind = each-both (λ y. AllByRecursion (λ a. lies_in y a ≡ false) front) (λ y. lies_in y x ≡ false) (λ y. AllByRecursion (λ a. lies_in y a ≡ false) (front ++ x ∷ []))
      (λ y a b. each-append (λ z. lies_in y z ≡ false) front (x ∷ []) a (b, tt)) xs apart.1 outside.0 in
      rw stays (ap (cut_all (filter test xs)) (sym (append_assoc front (x ∷ []) xs)) ∙ cut_those test (front ++ x ∷ []) xs behind outside.1 ∙ append_assoc front (x ∷ []) (filter (λ x. not (test x)) xs)))
]

none_in_front : (xs : List Extent) → AllByRecursion (λ y. AllByRecursion (λ a. lies_in y a ≡ false) []) xs
none_in_front [] = tt
none_in_front (x ∷ xs) = (tt, none_in_front xs)

pub cut_all_those : (test : Extent → Bool) (xs : List Extent) → Outside xs → cut_all (filter test xs) xs ≡ filter (λ x. not (test x)) xs
cut_all_those test xs outside = cut_those test [] xs (none_in_front xs) outside
