-- Offers as one list of extents: what comes and goes.
use Rattle.std.proofs.Common.{◌≡◌, ℕ, zero, suc, ◌+◌, ◌≤◌, ◌<◌, List, [], ◌∷◌, ◌++◌, Some, drop, get_or, length, slice_get, take, refl, sym, ap, subst, ◌∙◌, arith}
use Rattle.std.proofs.lemmas.List.{drop-append-le, drop-drop, drop-map, drop_all, drop_more, length-append, length-drop, length-take-le, take-append-le, take_all}
use Rattle.extent_list.specs.{dcd_codes.specs.dcd_base.specs.declared.capacity.Extent.Extent, ExtentLists.count_in}
use Rattle.offer_core.{specs.declared.offer.Offer.Offer, specs.Offerings.lists_of, specs.Parting.AreParts, specs.Parting.parted, proofs.Counting.count_in-cons}

-- ---- one offer more

pub parted_push : (ns : List ℕ) (xs ys : List Extent) → AreParts ns xs → parted (ns ++ length ys ∷ []) (xs ++ ys) ≡ parted ns xs ++ record { extents = ys } ∷ []
parted_push [] xs ys parts =
    ap (λ (zs : List Extent). parted (length ys ∷ []) (zs ++ ys)) parts
    ∙ (λ i. record { extents = take_all (length ys) ys (omega arith) i } ∷ [])
parted_push (n ∷ ns) xs ys parts =
    let later : parted (ns ++ length ys ∷ []) (drop n (xs ++ ys)) ≡ parted ns (drop n xs) ++ record { extents = ys } ∷ [] =
    ap (parted (ns ++ length ys ∷ [])) (drop-append-le n xs ys parts.0) ∙ parted_push ns (drop n xs) ys parts.1 in
    λ i. record { extents = take-append-le n xs ys parts.0 i } ∷ later i

pub parts_push : (ns : List ℕ) (xs ys : List Extent) → AreParts ns xs → AreParts (ns ++ length ys ∷ []) (xs ++ ys)
parts_push [] xs ys parts =
    subst (λ (zs : List Extent). AreParts (length ys ∷ []) (zs ++ ys)) (sym parts) (omega arith, drop_all (length ys) ys (omega arith))
parts_push (n ∷ ns) xs ys parts = (
  omega (arith, parts.0, length-append xs ys),
  subst (AreParts (ns ++ length ys ∷ [])) (sym (drop-append-le n xs ys parts.0)) (parts_push ns (drop n xs) ys parts.1),
)

-- ---- how many there are

pub length_parted : (ns : List ℕ) (xs : List Extent) → length (parted ns xs) ≡ length ns
length_parted [] xs = refl
length_parted (n ∷ ns) xs = ap suc (length_parted ns (drop n xs))

pub count_parted : (ns : List ℕ) (xs : List Extent) → AreParts ns xs → count_in (lists_of (parted ns xs)) ≡ length xs
count_parted [] xs parts = sym (ap length parts)
count_parted (n ∷ ns) xs parts = omega (
  arith,
  count_in-cons (take n xs) (lists_of (parted ns (drop n xs))),
  count_parted ns (drop n xs) parts.1,
  length-take-le n xs parts.0,
  length-drop n xs,
  parts.0,
)

-- ---- the offer at an index

-- So many extents stand before an offer.
pub record IsAt (ns : List ℕ) (xs : List Extent) (i from : ℕ) : Type 0 where
  pub within : from ≤ length xs
  pub parts : AreParts (drop i ns) (drop from xs)
  pub rest : drop i (parted ns xs) ≡ parted (drop i ns) (drop from xs)

-- the one at an index has its extents there
pub at_holds : (ns : List ℕ) (xs : List Extent) (i from : ℕ) → i < length ns → IsAt ns xs i from →
    (from + get_or ns i 0 ≤ length xs) × (AreParts (drop (i + 1) ns) (drop (from + get_or ns i 0) xs)) × (drop i (parted ns xs) ≡ record { extents = take (get_or ns i 0) (drop from xs) } ∷ parted (drop (i + 1) ns) (drop (from + get_or ns i 0) xs))
at_holds ns xs i from below at =
    let more = drop_more ns i 0 below in
    let n = get_or ns i 0 in
    let parts : AreParts (n ∷ drop (i + 1) ns) (drop from xs) = subst (λ ms. AreParts ms (drop from xs)) more at.parts in (
      omega (arith, parts.0, length-drop from xs, at.within),
      subst (AreParts (drop (i + 1) ns)) (drop-drop n from xs) parts.1,
      at.rest ∙ ap (λ ms. parted ms (drop from xs)) more ∙ ap (λ ys. record { extents = take n (drop from xs) } ∷ parted (drop (i + 1) ns) ys) (drop-drop n from xs),
    )

pub at_more : (ns : List ℕ) (xs : List Extent) (i from : ℕ) → i < length ns → IsAt ns xs i from → IsAt ns xs (i + 1) (from + get_or ns i 0)
at_more ns xs i from below at =
    let holds = at_holds ns xs i from below at in
    record {
      within = holds.0;
      parts = holds.1;
      rest = sym (drop-drop 1 i (parted ns xs)) ∙ ap (drop 1) holds.2;
    }

get_first : {X : Type 0} (ys : List X) (i : ℕ) (y : X) (rest : List X) → drop i ys ≡ y ∷ rest → slice_get ys i ≡ Some y
get_first [] zero y rest is = absurd (omega (arith, ap length is))
get_first [] (suc i) y rest is = absurd (omega (arith, ap length is))
get_first (x ∷ ys) zero y rest is = ap (λ zs. slice_get zs 0) is
get_first (x ∷ ys) (suc i) y rest is = get_first ys i y rest is

pub at_is : (ns : List ℕ) (xs : List Extent) (i from : ℕ) → i < length ns → IsAt ns xs i from → slice_get (lists_of (parted ns xs)) i ≡ Some (take (get_or ns i 0) (drop from xs))
at_is ns xs i from below at =
    let holds = at_holds ns xs i from below at in
    get_first (lists_of (parted ns xs)) i (take (get_or ns i 0) (drop from xs)) (lists_of (parted (drop (i + 1) ns) (drop (from + get_or ns i 0) xs)))
    (drop-map (λ (offer : Offer). offer.extents) i (parted ns xs) ∙ ap lists_of holds.2)
