-- Lists of extents that stand apart: one extent more, a cut, and the only extent that has a range.
use Rattle.std.proofs.Common.{◌≡◌, ◌⊎◌, ℕ, ◌+◌, ◌-◌, ◌<◌, ◌≤◌, true, inl, inr, All, List, [], ◌∷◌, ◌++◌, Some, length, get_or, take, refl, sym, subst, suc, zero, min, ◌^◌, ◌∙◌, arith, lt-ltb, append_assoc}
use Rattle.std.proofs.lemmas.{Bool.and_parts, Bool.cases_Bool, Bool.cases_lt, Bool.leb-true, Bool.ltb-true, List.take_more}
use Rattle.std.proofs.lemmas.List.{Elements.All-append, Elements.All-cons, Elements.All-head, Elements.All-nil, Elements.All-push, Elements.All-tail, Kept.AllPairs-cons, Quantifiers.all_pairs_push}
use Rattle.std.{proofs.lemmas.List.Sums.position_or_len_is, specs.List.position_or_len, specs.Prelude.nat_lt}
use Rattle.dcd_base.specs.declared.capacity.Extent.{Extent}
use Rattle.extent_list.specs.{Apart.IsBelow, Apart.StandApart, ExtentLists.cut, ExtentLists.has_range, ExtentLists.holder_of, ExtentLists.piece}

-- what an index past the end reads
abbrev pub no_extent : Extent
no_extent = record { start = 0; length = 0; tag = record { 0 = [] }; sequence = 0 }

-- the extents have no address in common
abbrev pub Apart : Extent → Extent → Type 0
Apart x y = IsBelow x y ⊎ IsBelow y x

-- all of the list lies from an address up to another
abbrev pub LieIn : ℕ → ℕ → List Extent → Type 0
LieIn low high xs = All (λ (x : Extent). (low ≤ x.start) × (x.start + x.length ≤ high)) xs

-- one extent more, above the others or below them
module _ (xs : List Extent) (i : ℕ) (d : Extent) (known : i < length xs) (low high : ℕ) (inside : LieIn low high (take i xs)) where
  pub above_apart : high ≤ (get_or xs i d).start → StandApart (take i xs) → StandApart (take (i + 1) xs)
  above_apart above before =
      subst StandApart (sym (take_more xs i d known))
      (all_pairs_push Apart (take i xs) (get_or xs i d) before (λ k e below. inl (omega (arith, (inside k e below).1, above))))

  pub below_apart : (get_or xs i d).start + (get_or xs i d).length ≤ low → StandApart (take i xs) → StandApart (take (i + 1) xs)
  below_apart below before =
      subst StandApart (sym (take_more xs i d known))
      (all_pairs_push Apart (take i xs) (get_or xs i d) before (λ k e lt. inr (omega (arith, (inside k e lt).0, below))))

  pub lie_more : (from to : ℕ) → from ≤ low → high ≤ to → from ≤ (get_or xs i d).start → (get_or xs i d).start + (get_or xs i d).length ≤ to → LieIn from to (take (i + 1) xs)
  lie_more from to down up begins ends =
      subst (LieIn from to) (sym (take_more xs i d known))
      (All-push (λ (x : Extent). (from ≤ x.start) × (x.start + x.length ≤ to)) (take i xs) (get_or xs i d)
      (λ k e below. (omega (arith, (inside k e below).0, down), omega (arith, (inside k e below).1, up))) (begins, ends))

-- a part of an extent is apart from what the whole is apart from
part-apart : (x : Extent) (from to : ℕ) (xs : List Extent) → x.start ≤ from → to ≤ x.start + x.length → All (Apart x) xs → All (λ (y : Extent). (to ≤ y.start) ⊎ (y.start + y.length ≤ from)) xs
part-apart x from to xs low high apart k d known = elim (apart k d known) [
  | inl above ↦ inl (omega (arith, above, high))
  | inr below ↦ inr (omega (arith, below, low))
]

-- a piece in front of others that lie above it or below it
piece_on : (x : Extent) (from to : ℕ) (xs : List Extent) → All (λ (y : Extent). (to ≤ y.start) ⊎ (y.start + y.length ≤ from)) xs → StandApart xs → StandApart (piece x from to ++ xs)
piece_on x from to xs apart rest = elim (cases_Bool (nat_lt from to)) [
  | inr none ↦ rw none rest
  | inl some ↦ rw some (AllPairs-cons Apart (record x { start = from; length = to - from }) xs (λ k d known. elim (apart k d known) [
    | inl above ↦ inl (omega (arith, ltb-true _ _ some, above))
    | inr below ↦ inr below
  ]) rest)
]

-- a piece is apart from what the whole is apart from
all_piece : (x y : Extent) (from to : ℕ) → y.start ≤ from → to ≤ y.start + y.length → Apart x y → All (Apart x) (piece y from to)
all_piece x y from to low high apart = elim (cases_Bool (nat_lt from to)) [
  | inr none ↦ rw none (All-nil (Apart x))
  | inl some ↦ rw some (All-cons (Apart x) (record y { start = from; length = to - from }) [] (elim apart [
    | inl above ↦ inl (omega (arith, above, low))
    | inr below ↦ inr (omega (arith, below, high, ltb-true _ _ some))
  ]) (All-nil (Apart x)))
]

-- a range that lies in an extent
pub record Within (start bytes : ℕ) (x : Extent) : Type 0 where
  pub begins : x.start ≤ start
  pub ends : start + bytes ≤ x.start + x.length

pub within : (start bytes : ℕ) (x : Extent) → has_range start bytes x ≡ true → Within start bytes x
within start bytes x here = let parts = and_parts _ _ here in record { begins = leb-true _ _ parts.0; ends = leb-true _ _ parts.1 }

all_cut : (x : Extent) (start bytes : ℕ) (ys : List Extent) → All (Apart x) ys → All (Apart x) (cut start bytes ys)
all_cut x start bytes [] apart = apart
all_cut x start bytes (y ∷ ys) apart = elim (cases_Bool (has_range start bytes y)) [
  | inr other ↦ rw other (All-cons (Apart x) y (cut start bytes ys) (All-head (Apart x) y ys apart) (all_cut x start bytes ys (All-tail (Apart x) y ys apart)))
  | inl here ↦
      let is = within start bytes y here in
      let one = All-head (Apart x) y ys apart in
      let lower = all_piece x y y.start start (omega arith) (omega (arith, is.ends)) one in
      let upper = all_piece x y (start + bytes) (y.start + y.length) (omega (arith, is.begins)) (omega arith) one in
      rw here (All-append (Apart x) _ ys (All-append (Apart x) (piece y y.start start) _ lower upper) (All-tail (Apart x) y ys apart))
]

-- what is left of a list by a cut stands apart as the list did
pub cut_apart : (start bytes : ℕ) (xs : List Extent) → StandApart xs → StandApart (cut start bytes xs)
cut_apart start bytes [] apart = apart
cut_apart start bytes (x ∷ xs) apart =
    let first : All (Apart x) xs = λ k d known. apart zero (suc k) d (omega arith) (omega (arith, known)) in
    let rest : StandApart xs = λ i j d less known. apart (suc i) (suc j) d (omega (arith, less)) (omega (arith, known)) in
    elim (cases_Bool (has_range start bytes x)) [
      | inr other ↦ rw other (AllPairs-cons Apart x (cut start bytes xs) (all_cut x start bytes xs first) (cut_apart start bytes xs rest))
      | inl here ↦
          let is = within start bytes x here in
          let upper = piece x (start + bytes) (x.start + x.length) in
          let behind : StandApart (piece x (start + bytes) (x.start + x.length) ++ xs) = piece_on x (start + bytes) (x.start + x.length) xs (part-apart x (start + bytes) (x.start + x.length) xs (omega (arith, is.begins)) (omega arith) first) rest in
          let between : All (λ (y : Extent). (start ≤ y.start) ⊎ (y.start + y.length ≤ x.start)) (piece x (start + bytes) (x.start + x.length) ++ xs) =
          All-append (λ (y : Extent). (start ≤ y.start) ⊎ (y.start + y.length ≤ x.start)) (piece x (start + bytes) (x.start + x.length)) xs (above_piece x start bytes) (part-apart x x.start start xs (omega arith) (omega (arith, is.ends)) first) in
          rw here (subst StandApart (sym (append_assoc (piece x x.start start) (piece x (start + bytes) (x.start + x.length)) xs)) (piece_on x x.start start (piece x (start + bytes) (x.start + x.length) ++ xs) between behind))
    ]
  where
    above_piece : (x : Extent) (start bytes : ℕ) → All (λ (y : Extent). (start ≤ y.start) ⊎ (y.start + y.length ≤ x.start)) (piece x (start + bytes) (x.start + x.length))
    above_piece x start bytes = elim (cases_Bool (nat_lt (start + bytes) (x.start + x.length))) [
      | inr none ↦ rw none (All-nil (λ (y : Extent). (start ≤ y.start) ⊎ (y.start + y.length ≤ x.start)))
      | inl some ↦ rw some (All-cons (λ (y : Extent). (start ≤ y.start) ⊎ (y.start + y.length ≤ x.start)) _ [] (inl (omega arith)) (All-nil (λ (y : Extent). (start ≤ y.start) ⊎ (y.start + y.length ≤ x.start))))
    ]

-- the extent that has a range of some bytes is the only one, where all stand apart
pub only_holder : (start bytes : ℕ) (xs : List Extent) (i : ℕ) (d : Extent) → StandApart xs → 0 < bytes → i < length xs → has_range start bytes (get_or xs i d) ≡ true → holder_of start bytes xs ≡ Some i
only_holder start bytes xs i d apart some known here =
    let is = within start bytes (get_or xs i d) here in
    let first : position_or_len (has_range start bytes) xs ≡ i = position_or_len_is (has_range start bytes) xs i d (omega (arith, known)) (λ k below. elim (cases_Bool (has_range start bytes (get_or xs k d))) [
      | inr other ↦ other
      | inl also ↦
          let was = within start bytes (get_or xs k d) also in
          elim (apart k i d below known) [
            | inl under ↦ absurd (omega (arith, was.ends, is.begins, under, some))
            | inr over ↦ absurd (omega (arith, is.ends, was.begins, over, some))
          ]
    ]) (λ below. here) in
    rw (first, lt-ltb i (length xs) known) refl

-- an extent that begins below the end of the others shows that there are some
pub below_high : (low high start : ℕ) → (high ≡ 0) ⊎ (low ≤ high) → start < high → low ≤ high
below_high low high start (inl none) below = absurd (omega (arith, none, below))
below_high low high start (inr some) below = some

-- the end of the others is that of one of them, and so is the place where they begin
abbrev pub EndsAt : List Extent → ℕ → ℕ → Type 0
EndsAt xs i high = (high ≡ 0) ⊎ ((k : ℕ) × (k < i) × (high ≡ (get_or xs k no_extent).start + (get_or xs k no_extent).length))

abbrev pub BeginsAt : List Extent → ℕ → ℕ → Type 0
BeginsAt xs i low = (low ≡ 2 ^ 64 - 1) ⊎ ((k : ℕ) × (k < i) × (low ≡ (get_or xs k no_extent).start))

pub ends_more : (xs : List Extent) (i high next : ℕ) → next ≡ high → EndsAt xs i high → EndsAt xs (i + 1) next
ends_more xs i high next same (inl none) = inl (omega (arith, same, none))
ends_more xs i high next same (inr one) = inr (one.0, omega (arith, one.1), same ∙ one.2)

pub ends_new : (xs : List Extent) (i next : ℕ) → next ≡ (get_or xs i no_extent).start + (get_or xs i no_extent).length → EndsAt xs (i + 1) next
ends_new xs i next is = inr (i, omega arith, is)

pub begins_more : (xs : List Extent) (i low next : ℕ) → next ≡ low → BeginsAt xs i low → BeginsAt xs (i + 1) next
begins_more xs i low next same (inl none) = inl (omega (arith, same, none))
begins_more xs i low next same (inr one) = inr (one.0, omega (arith, one.1), same ∙ one.2)

pub begins_new : (xs : List Extent) (i next : ℕ) → next ≡ (get_or xs i no_extent).start → BeginsAt xs (i + 1) next
begins_new xs i next is = inr (i, omega arith, is)

pub begins_min : (xs : List Extent) (i low next : ℕ) → next ≡ min low (get_or xs i no_extent).start → BeginsAt xs i low → BeginsAt xs (i + 1) next
begins_min xs i low next is before = elim (cases_lt low (get_or xs i no_extent).start) [
  | inl less ↦ begins_more xs i low next (omega (arith, is, less)) before
  | inr from ↦ begins_new xs i next (omega (arith, is, from))
]
