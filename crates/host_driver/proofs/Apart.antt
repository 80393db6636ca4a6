-- Extents of which no two share an address, and what cuts leave of them.
use Rattle.std.proofs.Common.{◌≡◌, ℕ, ◌+◌, ◌-◌, ◌<◌, ◌≤◌, true, false, List, [], ◌∷◌, ◌++◌, refl, sym, subst, inl, inr, ◌⊎◌, arith}
use Rattle.std.proofs.lemmas.Bool.{cases_Bool, cases_lt, false≢true, le-ltb, lt-ltb}
use Rattle.std.specs.{List.AllByRecursion, List.list_any, Prelude.if◌then◌else◌}
use Rattle.dcd_base.specs.declared.capacity.Extent.{Extent}
use Rattle.extent_list.specs.ExtentLists.{cut, has_range, piece, without}
use Rattle.device_plain.specs.device_rules.proofs.ListSteps.{each-append, each-back, each-change, each-front}
use Rattle.host_driver.proofs.{Exchanging.begins, Exchanging.ends, Pending.AreBeside, Pending.IsBeside}

-- no extent shares an address with one behind it
abbrev pub AreApart : List Extent → Type 0
AreApart [] = Unit {0}
AreApart (x ∷ xs) = AreBeside x xs × AreApart xs

pub turned : (p x : Extent) → IsBeside p x → IsBeside x p
turned p x (inl above) = inr above
turned p x (inr below) = inl below

-- ---- pieces

abbrev part : Extent → ℕ → ℕ → Extent
part x from to = record x { start = from; length = to - from }

-- what holds of the part that it is, if there is one, holds of a piece
each_piece : (P : Extent → Type 0) (x : Extent) (from to : ℕ) → (from < to → P (part x from to)) → AllByRecursion P (piece x from to)
each_piece P x from to holds = elim (cases_lt from to) [
  | inl some ↦ subst (AllByRecursion P) (sym (one some)) (holds some, tt)
  | inr none ↦ subst (AllByRecursion P) (sym (nothing none)) tt
]
  where
    one : from < to → piece x from to ≡ part x from to ∷ []
    one some = rw (lt-ltb from to some) refl

    nothing : to ≤ from → piece x from to ≡ []
    nothing none = rw (le-ltb from to none) refl

-- a range beside an extent is beside its parts
beside_part : (p x : Extent) (from to : ℕ) → IsBeside p x → x.start ≤ from → from < to → to ≤ x.start + x.length → IsBeside p (part x from to)
beside_part p x from to (inl above) low some high = inl (omega (arith, above, low))
beside_part p x from to (inr below) low some high = inr (omega (arith, below, some, high))

-- both pieces of an extent
each_without : (P : Extent → Type 0) (a n : ℕ) (x : Extent) → ((from to : ℕ) → x.start ≤ from → from < to → to ≤ x.start + x.length → (to ≤ a) ⊎ (a + n ≤ from) → P (part x from to))
    → has_range a n x ≡ true → AllByRecursion P (without x a n)
each_without P a n x holds here =
    let low : x.start ≤ a = begins a n x here in
    let high : a + n ≤ x.start + x.length = ends a n x here in
    each-append P (piece x x.start a) (piece x (a + n) (x.start + x.length))
    (each_piece P x x.start a (λ some. holds x.start a (omega arith) some (omega (arith, high)) (inl (omega arith))))
    (each_piece P x (a + n) (x.start + x.length) (λ some. holds (a + n) (x.start + x.length) (omega (arith, low)) some (omega arith) (inr (omega arith))))

-- ---- what is beside a list is beside what a cut leaves of it

cut_here : (a n : ℕ) (x : Extent) (xs : List Extent) → has_range a n x ≡ true → cut a n (x ∷ xs) ≡ without x a n ++ xs
cut_here a n x xs here = rw here refl

cut_skip : (a n : ℕ) (x : Extent) (xs : List Extent) → has_range a n x ≡ false → cut a n (x ∷ xs) ≡ x ∷ cut a n xs
cut_skip a n x xs none = rw none refl

pub beside_cut : (p : Extent) (a n : ℕ) (xs : List Extent) → AreBeside p xs → AreBeside p (cut a n xs)
beside_cut p a n [] all = tt
beside_cut p a n (x ∷ xs) (first, all) = elim (cases_Bool (has_range a n x)) [
  | inl here ↦ subst (AreBeside p) (sym (cut_here a n x xs here))
      (each-append (IsBeside p) (without x a n) xs (each_without (IsBeside p) a n x (λ from to low some high side. beside_part p x from to first low some high) here) all)
  | inr other ↦ subst (AreBeside p) (sym (cut_skip a n x xs other)) (first, beside_cut p a n xs all)
]

-- ---- apart stays apart

pub apart-append : (xs ys : List Extent) → AreApart xs → AreApart ys → AllByRecursion (λ x. AreBeside x ys) xs → AreApart (xs ++ ys)
apart-append [] ys first second across = second
apart-append (x ∷ xs) ys first second across = (each-append (IsBeside x) xs ys first.0 across.0, apart-append xs ys first.1 second across.1)

pub apart-front : (xs ys : List Extent) → AreApart (xs ++ ys) → AreApart xs
apart-front [] ys all = tt
apart-front (x ∷ xs) ys all = (each-front (IsBeside x) xs ys all.0, apart-front xs ys all.1)

pub apart-across : (xs ys : List Extent) → AreApart (xs ++ ys) → AllByRecursion (λ x. AreBeside x ys) xs
apart-across [] ys all = tt
apart-across (x ∷ xs) ys all = (each-back (IsBeside x) xs ys all.0, apart-across xs ys all.1)

-- the pieces of one extent
apart_pieces : (a n : ℕ) (x : Extent) → has_range a n x ≡ true → AreApart (without x a n)
apart_pieces a n x here =
    apart-append (piece x x.start a) (piece x (a + n) (x.start + x.length)) (alone x.start a) (alone (a + n) (x.start + x.length))
    (each_piece (λ y. AreBeside y (piece x (a + n) (x.start + x.length))) x x.start a (λ some.
    each_piece (IsBeside (part x x.start a)) x (a + n) (x.start + x.length) (λ more. inl (omega (arith, some, more)))))
  where
    alone : (from to : ℕ) → AreApart (piece x from to)
    alone from to = elim (cases_lt from to) [
      | inl some ↦ subst (λ b. AreApart (if b then part x from to ∷ [] else [])) (sym (lt-ltb from to some)) (tt, tt)
      | inr none ↦ subst (λ b. AreApart (if b then part x from to ∷ [] else [])) (sym (le-ltb from to none)) tt
    ]

pub apart_cut : (a n : ℕ) (xs : List Extent) → AreApart xs → AreApart (cut a n xs)
apart_cut a n [] all = tt
apart_cut a n (x ∷ xs) (first, all) = elim (cases_Bool (has_range a n x)) [
  | inl here ↦ subst AreApart (sym (cut_here a n x xs here))
      (apart-append (without x a n) xs (apart_pieces a n x here) all
      (each_without (λ y. AreBeside y xs) a n x (λ from to low some high side.
      each-change (IsBeside x) (IsBeside (part x from to)) (λ y beside. turned y (part x from to) (beside_part y x from to (turned x y beside) low some high)) xs first) here))
  | inr other ↦ subst AreApart (sym (cut_skip a n x xs other)) (beside_cut x a n xs first, apart_cut a n xs all)
]

-- ---- what is cut out is beside what stays

-- a range within an extent is beside what is beside the extent
pub within : (p x y : Extent) → has_range p.start p.length x ≡ true → IsBeside x y → IsBeside p y
within p x y here (inl above) = inl (omega (arith, ends p.start p.length x here, above))
within p x y here (inr below) = inr (omega (arith, begins p.start p.length x here, below))

-- the head is beside a range that lies behind it
head_beside : (p x : Extent) (xs : List Extent) → AreBeside x xs → list_any (has_range p.start p.length) xs ≡ true → IsBeside p x
head_beside p x [] all none = absurd (false≢true none)
head_beside p x (y ∷ xs) (first, all) some = elim (cases_Bool (has_range p.start p.length y)) [
  | inl here ↦ within p y x here (turned x y first)
  | inr other ↦ head_beside p x xs all (rw other at some)
]

pub cut_beside : (p : Extent) (xs : List Extent) → AreApart xs → list_any (has_range p.start p.length) xs ≡ true → AreBeside p (cut p.start p.length xs)
cut_beside p [] all none = absurd (false≢true none)
cut_beside p (x ∷ xs) (first, all) some = elim (cases_Bool (has_range p.start p.length x)) [
  | inl here ↦ subst (AreBeside p) (sym (cut_here p.start p.length x xs here))
      (each-append (IsBeside p) (without x p.start p.length) xs
      (each_without (IsBeside p) p.start p.length x (λ from to low more high side. by from to more side) here)
      (each-change (IsBeside x) (IsBeside p) (λ y beside. within p x y here beside) xs first))
  | inr other ↦ subst (AreBeside p) (sym (cut_skip p.start p.length x xs other))
      (head_beside p x xs first (rw other at some), cut_beside p xs all (rw other at some))
]
  where
    by : (from to : ℕ) → from < to → (to ≤ p.start) ⊎ (p.start + p.length ≤ from) → IsBeside p (part x from to)
    by from to some (inl below) = inr (omega (arith, some, below))
    by from to some (inr above) = inl above
