-- Extents that lie in others of the same tag.
use Rattle.std.proofs.Common.{◌≡◌, ℕ, ◌+◌, ◌-◌, ◌≤◌, Bool, true, false, ◌&&◌, List, [], ◌∷◌, ◌++◌, refl, ap, sym, ◌∙◌, inl, inr, arith, leb, ltb}
use Rattle.std.proofs.lemmas.{Bool.and_from, Bool.and_parts, Bool.cases_Bool, Bool.false≢true, Bool.leb-true, Bool.ltb-true, Bool.or_left, Bool.or_right, List.Folds.list_any-append}
use Rattle.std.specs.List.{AllByRecursion, list_any}
use Rattle.dcd_base.specs.{declared.capacity.Extent.Extent, Words.same_tag}
use Rattle.extent_list.specs.ExtentLists.{cut, has_range, is_in, lies_in, marked, owner_of, piece, without}
use Rattle.isolation_laws.specs.device_rules.proofs.{CutSteps.lies, CutSteps.lies-from, ListSteps.each-append, ListSteps.each-at, ListSteps.each-change, OneOffer.any-implies}
use Rattle.isolation_laws.specs.device_rules.proofs.TagSteps.{same_tag-is, same_tag-self}

-- whether x lies in y and has its tag
abbrev pub is_part : Extent → Extent → Bool
is_part x y = lies_in x y && same_tag y.tag x.tag

abbrev pub is_part_of : List Extent → Extent → Bool
is_part_of ys x = list_any (λ y. is_part x y) ys

abbrev pub ArePartsOf : List Extent → List Extent → Type 0
ArePartsOf ys xs = AllByRecursion (λ x. is_part_of ys x ≡ true) xs

part_from : (x y : Extent) → y.start ≤ x.start → x.start + x.length ≤ y.start + y.length → x.tag ≡ y.tag → is_part x y ≡ true
part_from x y begins ends tag = and_from (lies_in x y) (same_tag y.tag x.tag) (lies-from x y (record { begins = begins; ends = ends })) (ap (same_tag y.tag) tag ∙ same_tag-self y.tag)

part_then : (x y z : Extent) → is_part x y ≡ true → is_part y z ≡ true → is_part x z ≡ true
part_then x y z first second =
    let a = and_parts (lies_in x y) (same_tag y.tag x.tag) first in
    let b = and_parts (lies_in y z) (same_tag z.tag y.tag) second in
    let l = lies x y a.0 in
    let m = lies y z b.0 in
    part_from x z (omega (arith, l.begins, m.begins)) (omega (arith, l.ends, m.ends)) (sym (same_tag-is z.tag y.tag b.1 ∙ same_tag-is y.tag x.tag a.1))

pub part_in_front : (ys zs : List Extent) (x : Extent) → is_part_of ys x ≡ true → is_part_of (ys ++ zs) x ≡ true
part_in_front ys zs x e = list_any-append (λ y. is_part x y) ys zs ∙ or_left (is_part_of ys x) (is_part_of zs x) e

pub part_behind : (ys zs : List Extent) (x : Extent) → is_part_of zs x ≡ true → is_part_of (ys ++ zs) x ≡ true
part_behind ys zs x e = list_any-append (λ y. is_part x y) ys zs ∙ or_right (is_part_of ys x) (is_part_of zs x) e

-- parts of the front, and parts of what is behind it
pub parts_in_front : (ys zs xs : List Extent) → ArePartsOf ys xs → ArePartsOf (ys ++ zs) xs
parts_in_front ys zs xs each = each-change (λ x. is_part_of ys x ≡ true) (λ x. is_part_of (ys ++ zs) x ≡ true) (part_in_front ys zs) xs each

pub parts_behind : (ys zs xs : List Extent) → ArePartsOf zs xs → ArePartsOf (ys ++ zs) xs
parts_behind ys zs xs each = each-change (λ x. is_part_of zs x ≡ true) (λ x. is_part_of (ys ++ zs) x ≡ true) (part_behind ys zs) xs each

pub parts_self : (xs : List Extent) → ArePartsOf xs xs
parts_self [] = tt
parts_self (x ∷ xs) = (
  or_left (is_part x x) (is_part_of xs x) (part_from x x (omega arith) (omega arith) refl),
  parts_behind (x ∷ []) xs xs (parts_self xs),
)

pub parts_join : (ys zs us vs : List Extent) → ArePartsOf ys us → ArePartsOf zs vs → ArePartsOf (ys ++ zs) (us ++ vs)
parts_join ys zs us vs first second = each-append (λ x. is_part_of (ys ++ zs) x ≡ true) us vs (parts_in_front ys zs us first) (parts_behind ys zs vs second)

pub parts_then : (zs ys xs : List Extent) → ArePartsOf zs ys → ArePartsOf ys xs → ArePartsOf zs xs
parts_then zs ys xs second first = each-change (λ x. is_part_of ys x ≡ true) (λ x. is_part_of zs x ≡ true) one xs first
  where
    one : (x : Extent) → is_part_of ys x ≡ true → is_part_of zs x ≡ true
    one x e =
        let found = each-at (λ y. is_part_of zs y ≡ true) (λ y. is_part x y) ys second e in
        any-implies (λ z. is_part found.0 z) (λ z. is_part x z) zs (λ z. part_then x found.0 z found.1) found.2

-- what a cut leaves
piece_part : (x : Extent) (from to : ℕ) → x.start ≤ from → to ≤ x.start + x.length → ArePartsOf (x ∷ []) (piece x from to)
piece_part x from to low high = elim (cases_Bool (ltb from to)) [
  | inr none ↦ rw none tt
  | inl some ↦ rw some (or_left (is_part (record x { start = from; length = to - from }) x) false (part_from (record x { start = from; length = to - from }) x low (omega (arith, high, ltb-true from to some)) refl), tt)
]

pub cut_parts : (start bytes : ℕ) (xs : List Extent) → ArePartsOf xs (cut start bytes xs)
cut_parts start bytes [] = tt
cut_parts start bytes (x ∷ xs) = elim (cases_Bool (has_range start bytes x)) [
  | inr stays ↦ rw stays (parts_join (x ∷ []) xs (x ∷ []) (cut start bytes xs) (parts_self (x ∷ [])) (cut_parts start bytes xs))
  | inl gives ↦ (let ends = and_parts (leb x.start start) (leb (start + bytes) (x.start + x.length)) gives in
      let low = leb-true x.start start ends.0 in
      let high = leb-true (start + bytes) (x.start + x.length) ends.1 in
      let pieces : ArePartsOf (x ∷ []) (without x start bytes) = each-append (λ y. is_part_of (x ∷ []) y ≡ true) (piece x x.start start) (piece x (start + bytes) (x.start + x.length))
      (piece_part x x.start start (omega arith) (omega (arith, high))) (piece_part x (start + bytes) (x.start + x.length) (omega (arith, low)) (omega arith)) in
      rw gives (parts_join (x ∷ []) xs (without x start bytes) xs pieces (parts_self xs)))
]

-- an extent that lies in one of the owners, with the owner's tag
pub marked_part : (owners : List Extent) (x : Extent) → is_in owners x ≡ true → is_part_of owners (marked owners x) ≡ true
marked_part owners x inside = with_tag_of owners (owner_of owners x).sequence inside
  where
    with_tag_of : (ys : List Extent) (n : ℕ) → is_in ys x ≡ true → is_part_of ys (record x { tag = (owner_of ys x).tag; sequence = n }) ≡ true
    with_tag_of [] n e = absurd (false≢true e)
    with_tag_of (y ∷ ys) n e = elim (cases_Bool (lies_in x y)) [
      | inl here ↦ (let it : owner_of (y ∷ ys) x ≡ y = rw here refl in
          or_left (is_part (record x { tag = (owner_of (y ∷ ys) x).tag; sequence = n }) y) (is_part_of ys (record x { tag = (owner_of (y ∷ ys) x).tag; sequence = n }))
          (and_from (lies_in x y) (same_tag y.tag (owner_of (y ∷ ys) x).tag) here (ap (λ (z : Extent). same_tag y.tag z.tag) it ∙ same_tag-self y.tag)))
      | inr other ↦ (let it : owner_of (y ∷ ys) x ≡ owner_of ys x = rw other refl in
          let rest : is_part_of ys (record x { tag = (owner_of (y ∷ ys) x).tag; sequence = n }) ≡ true =
          ap (λ (z : Extent). is_part_of ys (record x { tag = z.tag; sequence = n })) it ∙ with_tag_of ys n (rw other at e) in
          or_right (is_part (record x { tag = (owner_of (y ∷ ys) x).tag; sequence = n }) y) (is_part_of ys (record x { tag = (owner_of (y ∷ ys) x).tag; sequence = n })) rest)
    ]
