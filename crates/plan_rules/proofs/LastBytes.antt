-- The last bytes of extents: where they lie, and what is left of a list without them.
use Rattle.std.proofs.{Math.Nat.add-mul-mod_self_right, Math.Nat.zero-mod, lemmas.List.reverse-append, lemmas.List.Elements.filter-append}
use Rattle.std.{proofs.lemmas.List.Sorted.IsPermutation-reverse, proofs.lemmas.List.Sorted.sum_by-IsPermutation, proofs.lemmas.List.Sums.sum_by-cons, specs.List.AllByRecursion, specs.List.filter}
use Rattle.std.specs.Prelude.{if◌then◌else◌, min, nat_le, reverse, sum_by}
use Rattle.std.proofs.Common.{◌≡◌, ◌⊎◌, ℕ, ◌+◌, ◌-◌, ◌*◌, ◌/◌, ◌%◌, ◌<◌, ◌≤◌, Bool, true, false, ◌==◌, List, [], ◌∷◌, ◌++◌, length, refl, ap, sym, subst, ◌∙◌, inl, inr, arith, append_assoc, append-nil, div-add-mod', eqb, leb, ltb}
use Rattle.std.proofs.lemmas.Bool.{and_from, and_parts, cases_Bool, cases_lt, eqb-false, false≢true, false_from_ne_true, le-leb, le-ltb, leb-false, leb-true, lt-ltb, ltb-true, eqb-true}
use Rattle.dcd_base.specs.declared.capacity.Extent.{Extent}
use Rattle.extent_list.specs.ExtentLists.{cut, cut_all, has_range, lies_in, overlaps, without}
use Rattle.isolation_laws.specs.device_rules.proofs.{ListSteps.each-append, ListSteps.each-both, ListSteps.each-change, AllLeave.Behind}
use Rattle.plan_rules.{proofs.Cutting.apart_outside, proofs.Cutting.cut_skips, proofs.Cutting.cut_whole, specs.LastBytes.without_last_bytes}
use Rattle.plan_rules.specs.Listing.{last_bytes, last_part, listed}

-- ---- the last bytes, with a case for what is listed whole and one for what is listed in part

abbrev pub last_parts : ℕ → List Extent → List Extent
last_parts n [] = []
last_parts n (x ∷ xs) =
    if n == 0 then []
    else if nat_le x.length n then listed x ∷ last_parts (n - x.length) xs
    else record (listed x) { start = x.start + (x.length - n); length = n } ∷ []

pub none_last : (xs : List Extent) → last_bytes 0 xs ≡ []
none_last [] = refl
none_last (x ∷ xs) = refl

-- a part that is all of an extent, and one that is less
part_whole : (n : ℕ) (x : Extent) → x.length ≤ n → last_part n x ≡ listed x
part_whole n x less =
    let all : min n x.length ≡ x.length = omega (arith, less) in
    let begins : x.start + (x.length - x.length) ≡ x.start = omega arith in
    (λ i. record (listed x) { start = x.start + (x.length - all i); length = all i }) ∙ (λ i. record (listed x) { start = begins i; length = x.length })

part_less : (n : ℕ) (x : Extent) → n < x.length → last_part n x ≡ record (listed x) { start = x.start + (x.length - n); length = n }
part_less n x more =
    let some : min n x.length ≡ n = omega (arith, more) in
    λ i. record (listed x) { start = x.start + (x.length - some i); length = some i }

none_over : (n : ℕ) (x : Extent) → n < x.length → n - x.length ≡ 0
none_over n x more = omega (arith, more)

pub same_last : (n : ℕ) (xs : List Extent) → last_bytes n xs ≡ last_parts n xs
same_last n [] = refl
same_last n (x ∷ xs) = ap (λ ys. if n == 0 then [] else ys) (elim (cases_Bool (nat_le x.length n)) [
  | inl whole ↦ rw whole (λ i. part_whole n x (leb-true x.length n whole) i ∷ same_last (n - x.length) xs i)
  | inr part ↦ rw part (λ i. part_less n x (leb-false x.length n part) i ∷ (ap (λ m. last_bytes m xs) (none_over n x (leb-false x.length n part)) ∙ none_last xs) i)
])

-- ---- whole pieces

pub whole_less : (a b s : ℕ) → b ≤ a → a % s ≡ 0 → b % s ≡ 0 → (a - b) % s ≡ 0
whole_less a b s fits first second =
    let all : a - b + b / s * s ≡ a = omega (arith, fits, div-add-mod' b s, second) in
    sym (add-mul-mod_self_right (a - b) (b / s) s) ∙ ap (λ n. n % s) all ∙ first

pub whole_more : (a b s : ℕ) → a % s ≡ 0 → b % s ≡ 0 → (a + b) % s ≡ 0
whole_more a b s first second =
    let all : a + b / s * s ≡ a + b = omega (arith, div-add-mod' b s, second) in
    ap (λ n. n % s) (sym all) ∙ add-mul-mod_self_right a (b / s) s ∙ first

-- ---- lists from the end

pub reverse_more : (x : Extent) (xs : List Extent) → reverse (x ∷ xs) ≡ reverse xs ++ x ∷ []
reverse_more x xs = reverse-append (x ∷ []) xs

pub each-reverse : (P : Extent → Type 0) (xs : List Extent) → AllByRecursion P xs → AllByRecursion P (reverse xs)
each-reverse P [] each = tt
each-reverse P (x ∷ xs) each = subst (AllByRecursion P) (sym (reverse_more x xs)) (each-append P (reverse xs) (x ∷ []) (each-reverse P xs each.1) (each.0, tt))

pub filter-reverse : (f : Extent → Bool) (xs : List Extent) → filter f (reverse xs) ≡ reverse (filter f xs)
filter-reverse f [] = refl
filter-reverse f (x ∷ xs) =
    ap (filter f) (reverse_more x xs) ∙ filter-append f (reverse xs) (x ∷ []) ∙ ap (λ ys. ys ++ filter f (x ∷ [])) (filter-reverse f xs) ∙ elim (cases_Bool (f x)) [
      | inl passes ↦ rw passes (sym (reverse_more x (filter f xs)))
      | inr fails ↦ rw fails (append-nil (reverse (filter f xs)))
    ]

-- ---- each of the last bytes' extents is the end of one

-- y is the end of x, and made of pieces of that size as x is
pub record IsTail (size : ℕ) (x y : Extent) : Type 0 where
  pub low : x.start ≤ y.start
  pub end : y.start + y.length ≡ x.start + x.length
  pub some : 0 < y.length
  pub begins : (y.start - x.start) % size ≡ 0
  pub long : y.length % size ≡ 0

-- what is asked of the extents themselves
pub record IsLong (size : ℕ) (x : Extent) : Type 0 where
  pub some : 0 < x.length
  pub long : x.length % size ≡ 0

pub last_each : (size : ℕ) (P Q : Extent → Type 0) → ((x : Extent) → P x → IsLong size x) → ((x y : Extent) → P x → IsTail size x y → Q y)
    → (n : ℕ) (xs : List Extent) → n % size ≡ 0 → AllByRecursion P xs → AllByRecursion Q (last_parts n xs)
last_each size P Q long step n [] whole each = tt
last_each size P Q long step n (x ∷ xs) whole each = elim (cases_Bool (eqb n 0)) [
  | inl none ↦ rw none tt
  | inr some ↦ elim (cases_Bool (leb x.length n)) [
    | inl all ↦ (let l = long x each.0 in
        let rest = last_each size P Q long step (n - x.length) xs (whole_less n x.length size (leb-true x.length n all) whole l.long) each.1 in
        let here : Q (listed x) = step x (listed x) each.0 (record { low = omega arith; end = refl; some = l.some; begins = ap (λ m. m % size) (nothing x.start) ∙ zero-mod size; long = l.long }) in
        rw (some, all) (here, rest))
    | inr less ↦ (let l = long x each.0 in
        let below : n < x.length = leb-false x.length n less in
        let begins : (x.start + (x.length - n) - x.start) % size ≡ 0 = ap (λ m. m % size) (behind x.start (x.length - n)) ∙ whole_less x.length n size (omega (arith, below)) l.long whole in
        let here : Q (record (listed x) { start = x.start + (x.length - n); length = n }) = step x (record (listed x) { start = x.start + (x.length - n); length = n }) each.0
        (record { low = omega arith; end = omega (arith, below); some = omega (arith, eqb-false n 0 some); begins = begins; long = whole }) in
        rw (some, less) (here, tt))
  ]
]
  where
    nothing : (a : ℕ) → a - a ≡ 0
    nothing a = omega arith

    behind : (a b : ℕ) → a + b - a ≡ b
    behind a b = omega arith

-- no more extents than there are
pub last_few : (n : ℕ) (xs : List Extent) → length (last_parts n xs) ≤ length xs
last_few n [] = omega arith
last_few n (x ∷ xs) = elim (cases_Bool (eqb n 0)) [
  | inl none ↦ rw none (omega arith)
  | inr some ↦ elim (cases_Bool (leb x.length n)) [
    | inl all ↦ rw (some, all) (omega (arith, last_few (n - x.length) xs))
    | inr less ↦ rw (some, less) (omega arith)
  ]
]

-- ---- apart

-- x and y share no address where neither reaches into the other
record Beside (x y : Extent) : Type 0 where
  side : (x.start + x.length ≤ y.start) ⊎ (y.start + y.length ≤ x.start)

beside_of : (x y : Extent) → overlaps x y ≡ false → Beside x y
beside_of x y apart = record {
  side = elim (cases_lt x.start (y.start + y.length)) [
    | inr behind ↦ inr behind
    | inl below ↦ elim (cases_lt y.start (x.start + x.length)) [
      | inr behind ↦ inl behind
      | inl both ↦ absurd (false≢true (sym apart ∙ and_from (ltb x.start (y.start + y.length)) (ltb y.start (x.start + x.length)) (lt-ltb _ _ below) (lt-ltb _ _ both)))
    ]
  ];
}

apart_of : (x y : Extent) → Beside x y → overlaps x y ≡ false
apart_of x y b = false_from_ne_true (overlaps x y) (λ e.
    let parts = and_parts (ltb x.start (y.start + y.length)) (ltb y.start (x.start + x.length)) e in
    absurd (elim b.side [
      | inl one ↦ absurd (omega (arith, one, ltb-true _ _ parts.1))
      | inr two ↦ absurd (omega (arith, two, ltb-true _ _ parts.0))
    ]))

pub apart_back : (x y : Extent) → overlaps x y ≡ false → overlaps y x ≡ false
apart_back x y apart = apart_of y x (record {
  side = elim (beside_of x y apart).side [
    | inl one ↦ inr one
    | inr two ↦ inl two
  ];
})

-- ends of extents that lie apart lie apart
tails_apart : (size : ℕ) (x y a b : Extent) → IsTail size x a → IsTail size y b → overlaps x y ≡ false → overlaps a b ≡ false
tails_apart size x y a b s t apart = apart_of a b (record {
  side = elim (beside_of x y apart).side [
    | inl one ↦ inl (omega (arith, one, s.end, t.low))
    | inr two ↦ inr (omega (arith, two, t.end, s.low))
  ];
})

self_tail : (size : ℕ) (x : Extent) → IsLong size x → IsTail size x (listed x)
self_tail size x l = record { low = omega arith; end = refl; some = l.some; begins = ap (λ m. m % size) (nothing x.start) ∙ zero-mod size; long = l.long }
  where
    nothing : (a : ℕ) → a - a ≡ 0
    nothing a = omega arith

pub last_behind : (size n : ℕ) (xs : List Extent) → n % size ≡ 0 → AllByRecursion (IsLong size) xs → Behind xs → Behind (last_parts n xs)
last_behind size n [] whole each behind = tt
last_behind size n (x ∷ xs) whole each behind = elim (cases_Bool (eqb n 0)) [
  | inl none ↦ rw none tt
  | inr some ↦ elim (cases_Bool (leb x.length n)) [
    | inr less ↦ rw (some, less) (tt, tt)
    | inl all ↦ (let rest : (n - x.length) % size ≡ 0 = whole_less n x.length size (leb-true x.length n all) whole each.0.long in
        let both = each-both (IsLong size) (λ y. overlaps y x ≡ false) (λ y. IsLong size y × (overlaps y x ≡ false)) (λ y a b. (a, b)) xs each.1 behind.0 in
        let apart = last_each size (λ y. IsLong size y × (overlaps y x ≡ false)) (λ y. overlaps y (listed x) ≡ false) (λ y e. e.0)
        (λ y b e tail. tails_apart size y x b (listed x) tail (self_tail size x each.0) e.1) (n - x.length) xs rest both in
        rw (some, all) (apart, last_behind size (n - x.length) xs rest each.1 behind.1))
  ]
]

-- ---- what is left

-- the list, last one first, without the last bytes of those that pass
abbrev pub without_in : (Extent → Bool) → ℕ → List Extent → List Extent
without_in f n [] = []
without_in f n (x ∷ xs) =
    if f x then (if n == 0 then x ∷ xs else if leb x.length n then without_in f (n - x.length) xs else record x { length = x.length - n } ∷ xs)
    else x ∷ without_in f n xs

pub without_few : (f : Extent → Bool) (n : ℕ) (xs : List Extent) → length (without_in f n xs) ≤ length xs
without_few f n [] = omega arith
without_few f n (x ∷ xs) = elim (cases_Bool (f x)) [
  | inr other ↦ rw other (omega (arith, without_few f n xs))
  | inl mine ↦ elim (cases_Bool (eqb n 0)) [
    | inl none ↦ rw (mine, none) (omega arith)
    | inr some ↦ elim (cases_Bool (leb x.length n)) [
      | inl all ↦ rw (mine, some, all) (omega (arith, without_few f (n - x.length) xs))
      | inr less ↦ rw (mine, some, less) (omega arith)
    ]
  ]
]

-- a test that sees the start alone
pub record SeesStart (f : Extent → Bool) : Type 0 where
  pub same : (x : Extent) (n : ℕ) → f (record x { length = n }) ≡ f x

pub without_there : (f : Extent → Bool) → SeesStart f → (n : ℕ) (xs : List Extent) → filter f (without_in f n xs) ≡ without_last_bytes n (filter f xs)
without_there f sees n [] = refl
without_there f sees n (x ∷ xs) = elim (cases_Bool (f x)) [
  | inr other ↦ rw (other, other) (without_there f sees n xs)
  | inl mine ↦ elim (cases_Bool (eqb n 0)) [
    | inl none ↦ rw (mine, none, mine) refl
    | inr some ↦ elim (cases_Bool (leb x.length n)) [
      | inl all ↦ rw (mine, some, all) (without_there f sees (n - x.length) xs)
      | inr less ↦ (let shorter : f (record x { length = x.length - n }) ≡ true = sees.same x (x.length - n) ∙ mine in rw (mine, some, less, shorter) refl)
    ]
  ]
]

pub without_elsewhere : (f g : Extent → Bool) → SeesStart g → ((x : Extent) → f x ≡ true → g x ≡ false) → (n : ℕ) (xs : List Extent) → filter g (without_in f n xs) ≡ filter g xs
without_elsewhere f g sees apart n [] = refl
without_elsewhere f g sees apart n (x ∷ xs) = elim (cases_Bool (f x)) [
  | inr other ↦ rw other (elim (cases_Bool (g x)) [
    | inl passes ↦ rw passes (ap (λ ys. x ∷ ys) (without_elsewhere f g sees apart n xs))
    | inr fails ↦ rw fails (without_elsewhere f g sees apart n xs)
  ])
  | inl mine ↦ (let fails = apart x mine in elim (cases_Bool (eqb n 0)) [
    | inl none ↦ rw (mine, none) refl
    | inr some ↦ elim (cases_Bool (leb x.length n)) [
      | inl all ↦ rw (mine, some, all, fails) (without_elsewhere f g sees apart (n - x.length) xs)
      | inr less ↦ (let shorter : g (record x { length = x.length - n }) ≡ false = sees.same x (x.length - n) ∙ fails in rw (mine, some, less, shorter, fails) refl)
    ]
  ])
]

-- ---- how many bytes are left

abbrev pub long : Extent → ℕ
long x = x.length

pub without_long : (n : ℕ) (xs : List Extent) → sum_by long (without_last_bytes n xs) ≡ sum_by long xs - n
without_long n [] = omega arith
without_long n (x ∷ xs) = elim (cases_Bool (eqb n 0)) [
  | inl none ↦ rw none (omega (arith, eqb-true n 0 none))
  | inr some ↦ elim (cases_Bool (leb x.length n)) [
    | inl all ↦ rw (some, all) (omega (arith, without_long (n - x.length) xs, sum_by-cons long x xs, leb-true x.length n all))
    | inr less ↦ rw (some, less) (omega (arith, sum_by-cons long (record x { length = x.length - n }) xs, sum_by-cons long x xs, leb-false x.length n less))
  ]
]

pub long-reverse : (xs : List Extent) → sum_by long (reverse xs) ≡ sum_by long xs
long-reverse xs = sum_by-IsPermutation long xs (reverse xs) (IsPermutation-reverse xs)

pub sum_whole : (size : ℕ) (xs : List Extent) → AllByRecursion (λ x. x.length % size ≡ 0) xs → sum_by long xs % size ≡ 0
sum_whole size [] each = zero-mod size
sum_whole size (x ∷ xs) each = ap (λ n. n % size) (sum_by-cons long x xs) ∙ whole_more x.length (sum_by long xs) size each.0 (sum_whole size xs each.1)

-- ---- the cuts

-- a cut that the last one does not have leaves it
cut_front : (y x : Extent) (xs : List Extent) → lies_in y x ≡ false → cut y.start y.length (xs ++ x ∷ []) ≡ cut y.start y.length xs ++ x ∷ []
cut_front y x [] outside = rw outside refl
cut_front y x (a ∷ xs) outside = elim (cases_Bool (has_range y.start y.length a)) [
  | inl gives ↦ rw gives (sym (append_assoc (without a y.start y.length) xs (x ∷ [])))
  | inr stays ↦ rw stays (ap (λ ys. a ∷ ys) (cut_front y x xs outside))
]

cuts_front : (ys : List Extent) (x : Extent) (xs : List Extent) → AllByRecursion (λ y. lies_in y x ≡ false) ys → cut_all ys (xs ++ x ∷ []) ≡ cut_all ys xs ++ x ∷ []
cuts_front [] x xs outside = refl
cuts_front (y ∷ ys) x xs outside = ap (cut_all ys) (cut_front y x xs outside.0) ∙ cuts_front ys x (cut y.start y.length xs) outside.1

-- the end of one is cut off
cut_end : (x : Extent) (n : ℕ) → 0 < n → n < x.length → cut (x.start + (x.length - n)) n (x ∷ []) ≡ record x { length = x.length - n } ∷ []
cut_end x n some less =
    let inside : has_range (x.start + (x.length - n)) n x ≡ true = and_from (leb x.start (x.start + (x.length - n))) (leb (x.start + (x.length - n) + n) (x.start + x.length)) (le-leb _ _ (omega arith)) (le-leb _ _ (omega (arith, less))) in
    let low : ltb x.start (x.start + (x.length - n)) ≡ true = lt-ltb _ _ (omega (arith, less)) in
    let up : ltb (x.start + (x.length - n) + n) (x.start + x.length) ≡ false = le-ltb _ _ (omega (arith, less)) in
    let long : x.start + (x.length - n) - x.start ≡ x.length - n = omega arith in
    rw (inside, low, up, long) refl

tail_outside : (size : ℕ) (x y a : Extent) → IsTail size x y → overlaps x a ≡ false → lies_in y a ≡ false
tail_outside size x y a t apart = apart_outside y a t.some (apart_of y a (record {
  side = elim (beside_of x a apart).side [
    | inl one ↦ inl (omega (arith, one, t.end))
    | inr two ↦ inr (omega (arith, two, t.low))
  ];
}))

module _ (size : ℕ) (f : Extent → Bool) where
  pub cut_last : (n : ℕ) (xs : List Extent) → n % size ≡ 0 → AllByRecursion (λ x. f x ≡ true → IsLong size x) xs → Behind xs
      → cut_all (last_parts n (filter f xs)) (reverse xs) ≡ reverse (without_in f n xs)
  cut_last n [] whole each behind = refl
  cut_last n (x ∷ xs) whole each behind = elim (cases_Bool (f x)) [
    | inr other ↦ (let both = each_longs xs each.1 behind.0 in
        let outside = last_each size (λ y. IsLong size y × (overlaps y x ≡ false)) (λ y. lies_in y x ≡ false) (λ y e. e.0) (λ y b e t. tail_outside size y b x t e.1) n (filter f xs) whole both in
        rw other (ap (cut_all (last_parts n (filter f xs))) (reverse_more x xs) ∙ cuts_front (last_parts n (filter f xs)) x (reverse xs) outside
        ∙ ap (λ ys. ys ++ x ∷ []) (cut_last n xs whole each.1 behind.1) ∙ sym (reverse_more x (without_in f n xs))))
    | inl mine ↦ elim (cases_Bool (eqb n 0)) [
      | inl none ↦ rw (mine, none) refl
      | inr some ↦ (let l = each.0 mine in
          let front : AllByRecursion (λ a. overlaps x a ≡ false) (reverse xs) = each-reverse (λ a. overlaps x a ≡ false) xs (each-change (λ a. overlaps a x ≡ false) (λ a. overlaps x a ≡ false) (λ a e. apart_back a x e) xs behind.0) in
          elim (cases_Bool (leb x.length n)) [
            | inl all ↦ (let skips = each-change (λ a. overlaps x a ≡ false) (λ a. lies_in x a ≡ false) (λ a e. apart_outside x a l.some e) (reverse xs) front in
                let gone : cut x.start x.length (reverse (x ∷ xs)) ≡ reverse xs = ap (cut x.start x.length) (reverse_more x xs) ∙ cut_skips x (reverse xs) (x ∷ []) skips ∙ ap (λ ys. reverse xs ++ ys) (cut_whole x []) ∙ append-nil (reverse xs) in
                rw (mine, some, all) (ap (cut_all (last_parts (n - x.length) (filter f xs))) gone
                ∙ cut_last (n - x.length) xs (whole_less n x.length size (leb-true x.length n all) whole l.long) each.1 behind.1))
            | inr less ↦ (let below : n < x.length = leb-false x.length n less in
                let y : Extent = record (listed x) { start = x.start + (x.length - n); length = n } in
                let tail : IsTail size x (record (listed x) { start = x.start + (x.length - n); length = n }) = record {
                  low = omega arith;
                  end = omega (arith, below);
                  some = omega (arith, eqb-false n 0 some);
                  begins = ap (λ m. m % size) (behind_start x.start (x.length - n)) ∙ whole_less x.length n size (omega (arith, below)) l.long whole;
                  long = whole;
                } in
                let skips = each-change (λ a. overlaps x a ≡ false) (λ a. lies_in y a ≡ false) (λ a e. tail_outside size x y a tail e) (reverse xs) front in
                let shorter : cut (x.start + (x.length - n)) n (reverse (x ∷ xs)) ≡ reverse xs ++ record x { length = x.length - n } ∷ [] =
                ap (cut (x.start + (x.length - n)) n) (reverse_more x xs) ∙ cut_skips y (reverse xs) (x ∷ []) skips ∙ ap (λ ys. reverse xs ++ ys) (cut_end x n (omega (arith, eqb-false n 0 some)) below) in
                rw (mine, some, less) (shorter ∙ sym (reverse_more (record x { length = x.length - n }) xs)))
          ])
    ]
  ]
    where
      behind_start : (a b : ℕ) → a + b - a ≡ b
      behind_start a b = omega arith

      each_longs : (ys : List Extent) → AllByRecursion (λ y. f y ≡ true → IsLong size y) ys → AllByRecursion (λ y. overlaps y x ≡ false) ys → AllByRecursion (λ y. IsLong size y × (overlaps y x ≡ false)) (filter f ys)
      each_longs [] each apart = tt
      each_longs (y ∷ ys) each apart = elim (cases_Bool (f y)) [
        | inl passes ↦ rw passes ((each.0 passes, apart.0), each_longs ys each.1 apart.1)
        | inr fails ↦ rw fails (each_longs ys each.1 apart.1)
      ]
