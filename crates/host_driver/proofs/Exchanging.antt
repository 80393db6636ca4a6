-- Two cuts of ranges apart may change places.
use Rattle.std.proofs.Common.{refl, ◌≡◌, ◌∙◌, sym, ap, arith, inl, inr, ◌⊎◌, ℕ, ◌+◌, ◌-◌, ◌<◌, ◌≤◌, Bool, true, false, List, [], ◌∷◌, ◌++◌, append_assoc}
use Rattle.std.specs.{Prelude.nat_lt, List.list_any}
use Rattle.std.proofs.lemmas.Bool.{and_parts, cases_Bool, false≢true, le-leb, le-ltb, leb-true, lt-ltb, ltb-true, ltb-false}
use Rattle.dcd_base.specs.declared.capacity.Extent.{Extent}
use Rattle.extent_list.specs.ExtentLists.{cut, has_range, piece, without}

pub has : (a m : ℕ) (x : Extent) → x.start ≤ a → a + m ≤ x.start + x.length → has_range a m x ≡ true
has a m x low high = rw (le-leb _ _ low, le-leb _ _ high) refl

pub begins : (a m : ℕ) (x : Extent) → has_range a m x ≡ true → x.start ≤ a
begins a m x here = leb-true _ _ (and_parts _ _ here).0

pub ends : (a m : ℕ) (x : Extent) → has_range a m x ≡ true → a + m ≤ x.start + x.length
ends a m x here = leb-true _ _ (and_parts _ _ here).1

abbrev part : Extent → ℕ → ℕ → Extent
part x from to = record x { start = from; length = to - from }

-- A range that an extent has not lies in no piece of it.
not_in_part : (a m from to : ℕ) (x : Extent) → has_range a m x ≡ false → x.start ≤ from → from < to → to ≤ x.start + x.length
    → has_range a m (part x from to) ≡ false
not_in_part a m from to x none low some high = elim (cases_Bool (has_range a m (part x from to))) [
  | inl here ↦
      let first : from ≤ a = begins a m (part x from to) here in
      let last : a + m ≤ from + (to - from) = ends a m (part x from to) here in
      absurd (false≢true (sym none ∙ has a m x (omega (arith, low, first)) (omega (arith, last, some, high))))
  | inr other ↦ other
]

cut_skip : (a m : ℕ) (p : Extent) (xs : List Extent) → has_range a m p ≡ false → cut a m (p ∷ xs) ≡ p ∷ cut a m xs
cut_skip a m p xs none = rw none refl

cut_here : (a m : ℕ) (p : Extent) (xs : List Extent) → has_range a m p ≡ true → cut a m (p ∷ xs) ≡ without p a m ++ xs
cut_here a m p xs here = rw here refl

piece_some : (x : Extent) (from to : ℕ) → from < to → piece x from to ≡ part x from to ∷ []
piece_some x from to some = rw (lt-ltb from to some) refl

piece_none : (x : Extent) (from to : ℕ) → to ≤ from → piece x from to ≡ []
piece_none x from to none = rw (le-ltb from to none) refl

-- So the cut goes on behind the pieces.
cut_behind_piece : (a m from to : ℕ) (x : Extent) (xs : List Extent) → has_range a m x ≡ false → x.start ≤ from → to ≤ x.start + x.length
    → cut a m (piece x from to ++ xs) ≡ piece x from to ++ cut a m xs
cut_behind_piece a m from to x xs none low high = elim (cases_Bool (nat_lt from to)) [
  | inl some ↦
      let is : piece x from to ≡ part x from to ∷ [] = piece_some x from to (ltb-true from to some) in
      ap (λ ys. cut a m (ys ++ xs)) is
      ∙ cut_skip a m (part x from to) xs (not_in_part a m from to x none low (ltb-true from to some) high)
      ∙ ap (λ ys. ys ++ cut a m xs) (sym is)
  | inr empty ↦
      let is : piece x from to ≡ [] = piece_none x from to (ltb-false from to empty) in
      ap (λ ys. cut a m (ys ++ xs)) is ∙ ap (λ ys. ys ++ cut a m xs) (sym is)
]

cut_behind : (a m b n : ℕ) (x : Extent) (xs : List Extent) → has_range a m x ≡ false → has_range b n x ≡ true
    → cut a m (without x b n ++ xs) ≡ without x b n ++ cut a m xs
cut_behind a m b n x xs none here =
    let end = x.start + x.length in
    let lower = piece x x.start b in
    let upper = piece x (b + n) end in
    let low : x.start ≤ b = begins b n x here in
    let high : b + n ≤ end = ends b n x here in
    ap (cut a m) (append_assoc lower upper xs)
    ∙ cut_behind_piece a m x.start b x (upper ++ xs) none (omega arith) (omega (arith, high))
    ∙ ap (λ ys. lower ++ ys) (cut_behind_piece a m (b + n) end x xs none (omega (arith, low)) (omega arith))
    ∙ sym (append_assoc lower upper (cut a m xs))

append_assoc_cut : (a m : ℕ) (xs ys zs : List Extent) → cut a m ((xs ++ ys) ++ zs) ≡ cut a m (xs ++ (ys ++ zs))
append_assoc_cut a m xs ys zs = ap (cut a m) (append_assoc xs ys zs)

regroup : (xs ys zs rest : List Extent) → (xs ++ ys) ++ (zs ++ rest) ≡ (xs ++ (ys ++ zs)) ++ rest
regroup xs ys zs rest = sym (append_assoc (xs ++ ys) zs rest) ∙ ap (λ l. l ++ rest) (append_assoc xs ys zs)

not_above : (b n from to : ℕ) (x : Extent) → from < to → to < b + n → has_range b n (part x from to) ≡ false
not_above b n from to x some low = elim (cases_Bool (has_range b n (part x from to))) [
  | inl here ↦
      let last : b + n ≤ from + (to - from) = ends b n (part x from to) here in
      absurd (omega (arith, last, some, low))
  | inr other ↦ other
]

-- A range with some bytes lies in no piece that ends at its start or below.
cut_behind_lower : (b n from to : ℕ) (x : Extent) (xs : List Extent) → to < b + n → cut b n (piece x from to ++ xs) ≡ piece x from to ++ cut b n xs
cut_behind_lower b n from to x xs low = elim (cases_Bool (nat_lt from to)) [
  | inl some ↦
      let is : piece x from to ≡ part x from to ∷ [] = piece_some x from to (ltb-true from to some) in
      let none : has_range b n (part x from to) ≡ false = not_above b n from to x (ltb-true from to some) low in
      ap (λ ys. cut b n (ys ++ xs)) is ∙ cut_skip b n (part x from to) xs none ∙ ap (λ ys. ys ++ cut b n xs) (sym is)
  | inr empty ↦
      let is : piece x from to ≡ [] = piece_none x from to (ltb-false from to empty) in
      ap (λ ys. cut b n (ys ++ xs)) is ∙ ap (λ ys. ys ++ cut b n xs) (sym is)
]

-- ---- two ranges in one extent, the first below the second

-- what both leave of it
abbrev without_both : Extent → ℕ → ℕ → ℕ → ℕ → List Extent
without_both x a m b n = piece x x.start a ++ (piece x (a + m) b ++ piece x (b + n) (x.start + x.length))

part_without : (a m from to : ℕ) (x : Extent) → from ≤ to → without (part x from to) a m ≡ piece x from a ++ piece x (a + m) to
part_without a m from to x low = ap (λ e. piece x from a ++ piece x (a + m) e) (omega (arith, low))

lower_first : (a m b n : ℕ) (x : Extent) (xs : List Extent) → has_range a m x ≡ true → has_range b n x ≡ true → 0 < m → a + m ≤ b
    → cut a m (without x b n ++ xs) ≡ without_both x a m b n ++ xs
lower_first a m b n x xs left right some apart =
    let end = x.start + x.length in
    let upper = piece x (b + n) end in
    let below : x.start < b = omega (arith, begins a m x left, some, apart) in
    let low : x.start ≤ a = begins a m x left in
    let is : piece x x.start b ≡ part x x.start b ∷ [] = piece_some x x.start b below in
    append_assoc_cut a m (piece x x.start b) upper xs
    ∙ ap (λ ys. cut a m (ys ++ (upper ++ xs))) is
    ∙ cut_here a m (part x x.start b) (upper ++ xs) (has a m (part x x.start b) low (omega (arith, below, apart)))
    ∙ ap (λ ys. ys ++ (upper ++ xs)) (part_without a m x.start b x (omega (arith, below)))
    ∙ regroup (piece x x.start a) (piece x (a + m) b) upper xs

upper_first : (a m b n : ℕ) (x : Extent) (xs : List Extent) → has_range a m x ≡ true → has_range b n x ≡ true → 0 < n → a + m ≤ b
    → cut b n (without x a m ++ xs) ≡ without_both x a m b n ++ xs
upper_first a m b n x xs left right some apart =
    let end = x.start + x.length in
    let lower = piece x x.start a in
    let above : a + m < end = omega (arith, ends b n x right, some, apart) in
    let high : b + n ≤ end = ends b n x right in
    let is : piece x (a + m) end ≡ part x (a + m) end ∷ [] = piece_some x (a + m) end above in
    append_assoc_cut b n lower (piece x (a + m) end) xs
    ∙ cut_behind_lower b n x.start a x (piece x (a + m) end ++ xs) (omega (arith, apart, some))
    ∙ ap (λ ys. lower ++ cut b n (ys ++ xs)) is
    ∙ ap (λ ys. lower ++ ys) (cut_here b n (part x (a + m) end) xs (has b n (part x (a + m) end) apart (omega (arith, above, high))))
    ∙ ap (λ ys. lower ++ (ys ++ xs)) (part_without b n (a + m) end x (omega (arith, above)))
    ∙ sym (append_assoc lower (piece x (a + m) b ++ piece x (b + n) end) xs)

one_extent : (a m b n : ℕ) (x : Extent) (xs : List Extent) → has_range a m x ≡ true → has_range b n x ≡ true → 0 < m → 0 < n → a + m ≤ b
    → cut a m (without x b n ++ xs) ≡ cut b n (without x a m ++ xs)
one_extent a m b n x xs left right some more apart =
    lower_first a m b n x xs left right some apart ∙ sym (upper_first a m b n x xs left right more apart)

-- ---- a whole list

step : (a m b n : ℕ) (x : Extent) (xs : List Extent) (p q : Bool) → has_range a m x ≡ p → has_range b n x ≡ q → 0 < m → 0 < n → a + m ≤ b
    → cut a m (cut b n xs) ≡ cut b n (cut a m xs) → cut a m (cut b n (x ∷ xs)) ≡ cut b n (cut a m (x ∷ xs))
step a m b n x xs true true left right some more apart then =
    ap (cut a m) (cut_here b n x xs right) ∙ one_extent a m b n x xs left right some more apart ∙ sym (ap (cut b n) (cut_here a m x xs left))
step a m b n x xs true false left right some more apart then =
    ap (cut a m) (cut_skip b n x xs right) ∙ cut_here a m x (cut b n xs) left
    ∙ sym (ap (cut b n) (cut_here a m x xs left) ∙ cut_behind b n a m x xs right left)
step a m b n x xs false true left right some more apart then =
    ap (cut a m) (cut_here b n x xs right) ∙ cut_behind a m b n x xs left right
    ∙ sym (ap (cut b n) (cut_skip a m x xs left) ∙ cut_here b n x (cut a m xs) right)
step a m b n x xs false false left right some more apart then =
    ap (cut a m) (cut_skip b n x xs right) ∙ cut_skip a m x (cut b n xs) left ∙ ap (λ ys. x ∷ ys) then
    ∙ sym (ap (cut b n) (cut_skip a m x xs left) ∙ cut_skip b n x (cut a m xs) right)

-- Two ranges with some bytes, the first below the second, may be cut in any order, from whichever extents they lie in.
pub cuts_exchange : (a m b n : ℕ) (xs : List Extent) → 0 < m → 0 < n → a + m ≤ b → cut a m (cut b n xs) ≡ cut b n (cut a m xs)
cuts_exchange a m b n [] some more apart = refl
cuts_exchange a m b n (x ∷ xs) some more apart =
    step a m b n x xs (has_range a m x) (has_range b n x) refl refl some more apart (cuts_exchange a m b n xs some more apart)

-- ---- what a list has in front, and what stays in it

front_step : (a m : ℕ) (x : Extent) (xs ys : List Extent) (p : Bool) → has_range a m x ≡ p → list_any (has_range a m) (x ∷ xs) ≡ true
    → (list_any (has_range a m) xs ≡ true → cut a m (xs ++ ys) ≡ cut a m xs ++ ys) → cut a m ((x ∷ xs) ++ ys) ≡ cut a m (x ∷ xs) ++ ys
front_step a m x xs ys true here some then =
    cut_here a m x (xs ++ ys) here ∙ sym (append_assoc (without x a m) xs ys) ∙ ap (λ l. l ++ ys) (sym (cut_here a m x xs here))
front_step a m x xs ys false other some then =
    cut_skip a m x (xs ++ ys) other ∙ ap (λ l. x ∷ l) (then (rw other at some)) ∙ ap (λ l. l ++ ys) (sym (cut_skip a m x xs other))

-- A range that lies in an extent of the front is cut there.
pub cut_in_front : (a m : ℕ) (xs ys : List Extent) → list_any (has_range a m) xs ≡ true → cut a m (xs ++ ys) ≡ cut a m xs ++ ys
cut_in_front a m [] ys none = absurd (false≢true none)
cut_in_front a m (x ∷ xs) ys some = front_step a m x xs ys (has_range a m x) refl some (cut_in_front a m xs ys)

-- A range stays in what a cut beside it leaves of the extent that has it.
pub stays_behind : (b n : ℕ) (xs ys : List Extent) → list_any (has_range b n) ys ≡ true → list_any (has_range b n) (xs ++ ys) ≡ true
stays_behind b n [] ys some = some
stays_behind b n (x ∷ xs) ys some = elim (cases_Bool (has_range b n x)) [
  | inl here ↦ rw here refl
  | inr other ↦ rw other (stays_behind b n xs ys some)
]

pub stays_before : (b n : ℕ) (xs ys : List Extent) → list_any (has_range b n) xs ≡ true → list_any (has_range b n) (xs ++ ys) ≡ true
stays_before b n [] ys some = absurd (false≢true some)
stays_before b n (x ∷ xs) ys some = elim (cases_Bool (has_range b n x)) [
  | inl here ↦ rw here refl
  | inr other ↦ rw other (stays_before b n xs ys (rw other at some))
]

in_piece : (b n from to : ℕ) (x : Extent) → from < to → from ≤ b → b + n ≤ to → list_any (has_range b n) (piece x from to) ≡ true
in_piece b n from to x some low high =
    ap (list_any (has_range b n)) (piece_some x from to some) ∙ rw (has b n (part x from to) low (omega (arith, some, high))) refl

-- the range lies beside the one that is cut
abbrev pub Beside : ℕ → ℕ → ℕ → ℕ → Type 0
Beside a m b n = (a + m ≤ b) ⊎ (b + n ≤ a)

stays_in_part : (a m b n : ℕ) (x : Extent) → 0 < n → Beside a m b n → has_range b n x ≡ true → list_any (has_range b n) (without x a m) ≡ true
stays_in_part a m b n x some (inl above) here =
    stays_behind b n (piece x x.start a) _
    (in_piece b n (a + m) (x.start + x.length) x (omega (arith, above, some, ends b n x here)) above (ends b n x here))
stays_in_part a m b n x some (inr below) here =
    stays_before b n (piece x x.start a) _
    (in_piece b n x.start a x (omega (arith, below, some, begins b n x here)) (begins b n x here) below)

stays_step : (a m b n : ℕ) (x : Extent) (xs : List Extent) (p q : Bool) → has_range a m x ≡ p → has_range b n x ≡ q → 0 < n → Beside a m b n
    → list_any (has_range b n) (x ∷ xs) ≡ true → (list_any (has_range b n) xs ≡ true → list_any (has_range b n) (cut a m xs) ≡ true)
    → list_any (has_range b n) (cut a m (x ∷ xs)) ≡ true
stays_step a m b n x xs true true left right some beside inside then =
    ap (list_any (has_range b n)) (cut_here a m x xs left) ∙ stays_before b n (without x a m) xs (stays_in_part a m b n x some beside right)
stays_step a m b n x xs true false left right some beside inside then =
    ap (list_any (has_range b n)) (cut_here a m x xs left) ∙ stays_behind b n (without x a m) xs (rw right at inside)
stays_step a m b n x xs false true left right some beside inside then =
    ap (list_any (has_range b n)) (cut_skip a m x xs left) ∙ rw right refl
stays_step a m b n x xs false false left right some beside inside then =
    ap (list_any (has_range b n)) (cut_skip a m x xs left) ∙ rw right (then (rw right at inside))

pub stays_in : (a m b n : ℕ) (xs : List Extent) → 0 < n → Beside a m b n → list_any (has_range b n) xs ≡ true → list_any (has_range b n) (cut a m xs) ≡ true
stays_in a m b n [] some beside inside = inside
stays_in a m b n (x ∷ xs) some beside inside =
    stays_step a m b n x xs (has_range a m x) (has_range b n x) refl refl some beside inside (stays_in a m b n xs some beside)

-- The same of an exchange, whichever of the two is below.
pub cuts_beside : (a m b n : ℕ) (xs : List Extent) → 0 < m → 0 < n → Beside a m b n → cut a m (cut b n xs) ≡ cut b n (cut a m xs)
cuts_beside a m b n xs some more (inl above) = cuts_exchange a m b n xs some more above
cuts_beside a m b n xs some more (inr below) = sym (cuts_exchange b n a m xs more some below)
