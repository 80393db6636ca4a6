-- Extents of offers, one offer after another.
use Rattle.std.proofs.Common.{◌≡◌, ◌||◌, ℕ, ◌+◌, ◌<◌, Bool, true, false, List, [], ◌∷◌, ◌++◌, length, zero, suc, Some, get_or, drop, take, refl, sym, ap, ◌∙◌, append_assoc, append-nil, arith, length-append}
use Rattle.std.proofs.lemmas.List.{get_or-take, length-take, take_more, take_all, Concat.flat_map-append, Concat.length-flat_map, Folds.list_any-append, Folds.list_any_at, Folds.list_any_more}
use Rattle.std.{proofs.lemmas.List.Sums.sum_by_push, specs.List.list_any, specs.Prelude.flat_map, specs.Prelude.slice_get}
use Rattle.extent_list.specs.{ExtentLists.count_in, ExtentLists.has_extent_of, HostLists.Lists, HostLists.extent_total, HostLists.extents_of_lists, dcd_codes.specs.dcd_base.specs.Words.same_tag}
use Rattle.extent_list.specs.dcd_codes.specs.dcd_base.specs.declared.capacity.{Extent.Extent, Tag.Tag}
use Rattle.offer_core.specs.{declared.offer.Offer.Offer, Offerings.lists_of, Offerings.oldest_of}
use Rattle.host_lists.specs.Tags.{extents_before}

or_swap : (a b c : Bool) → ((a || b) || c) ≡ ((c || a) || b)
or_swap true true true = refl
or_swap true true false = refl
or_swap true false true = refl
or_swap true false false = refl
or_swap false true true = refl
or_swap false true false = refl
or_swap false false true = refl
or_swap false false false = refl

pub any-flat : (t : Tag) (offers : List (List Extent)) → has_extent_of t (flat_map (λ xs. xs) offers) ≡ list_any (has_extent_of t) offers
any-flat t [] = refl
any-flat t (xs ∷ offers) = list_any-append (λ (x : Extent). same_tag x.tag t) xs (flat_map (λ ys. ys) offers) ∙ ap (λ b. has_extent_of t xs || b) (any-flat t offers)

pub count_flat : (offers : List (List Extent)) → length (flat_map (λ xs. xs) offers) ≡ count_in offers
count_flat offers = length-flat_map (λ xs. xs) offers

-- with one offer more
pub extents_before_more : (accepted : List Extent) (offers : List (List Extent)) (i : ℕ) (d : List Extent) → i < length offers → extents_before accepted offers i ++ get_or offers i d ≡ extents_before accepted offers (i + 1)
extents_before_more accepted offers i d known =
    append_assoc accepted (flat_map (λ xs. xs) (take i offers)) (get_or offers i d)
    ∙ ap (λ ys. accepted ++ ys) (sym (ap (flat_map (λ xs. xs)) (take_more offers i d known)
    ∙ flat_map-append (λ xs. xs) (take i offers) (get_or offers i d ∷ [])
    ∙ ap (λ ys. flat_map (λ xs. xs) (take i offers) ++ ys) (append-nil (get_or offers i d))))

-- a tag among them, looked for in the extents behind them first
pub has_extent_before : (t : Tag) (accepted : List Extent) (offers : List (List Extent)) (n : ℕ) (before : List Extent) →
    has_extent_of t (extents_before accepted offers n ++ before) ≡ ((has_extent_of t before || has_extent_of t accepted) || list_any (has_extent_of t) (take n offers))
has_extent_before t accepted offers n before =
    list_any-append (λ (x : Extent). same_tag x.tag t) (extents_before accepted offers n) before
    ∙ ap (λ b. b || has_extent_of t before) (list_any-append (λ (x : Extent). same_tag x.tag t) accepted (flat_map (λ xs. xs) (take n offers)) ∙ ap (λ b. has_extent_of t accepted || b) (any-flat t (take n offers)))
    ∙ or_swap (has_extent_of t accepted) (list_any (has_extent_of t) (take n offers)) (has_extent_of t before)

-- how many extents a host has
pub length_extents : (l : Lists) → length (extents_of_lists l) ≡ extent_total l
length_extents l = length-append l.accepted (flat_map (λ xs. xs) l.offers) ∙ ap (λ n. length l.accepted + n) (count_flat l.offers)

-- with all offers
pub extents_before_all : (accepted : List Extent) (offers : List (List Extent)) (n : ℕ) → n ≡ length offers → extents_before accepted offers n ≡ accepted ++ flat_map (λ xs. xs) offers
extents_before_all accepted offers n all = ap (λ xs. accepted ++ flat_map (λ ys. ys) xs) (ap (λ k. take k offers) all ∙ take_all (length offers) offers (omega arith))

-- the extents of an offer at its index
pub record IsAt (offers : List (List Extent)) (i : ℕ) (xs : List Extent) : Type 0 where
  pub known : i < length offers
  pub extents : get_or offers i [] ≡ xs

pub list_at : (offers : List (List Extent)) (i : ℕ) (xs : List Extent) → slice_get offers i ≡ Some xs → IsAt offers i xs
list_at [] i xs found = absurd (cc)
list_at (ys ∷ offers) zero xs found = record { known = omega arith; extents = cc }
list_at (ys ∷ offers) (suc i) xs found = let at = list_at offers i xs found in record { known = omega (arith, at.known); extents = at.extents }

pub oldest_at : (offers : List Offer) (o : Offer) → slice_get offers 0 ≡ Some o → o.extents ≡ oldest_of (lists_of offers)
oldest_at [] o found = absurd (cc)
oldest_at (x ∷ offers) o found = cc

-- the first offers and one more
pub count_in_more : (offers : List (List Extent)) (i : ℕ) (xs : List Extent) → slice_get offers i ≡ Some xs → count_in (take (i + 1) offers) ≡ count_in (take i offers) + length xs
count_in_more offers i xs found =
    let at = list_at offers i xs found in
    ap (λ (lists : List (List Extent)). count_in lists) (take_more offers i [] at.known)
    ∙ sum_by_push (λ (ys : List Extent). length ys) (take i offers) (get_or offers i [])
    ∙ ap (λ (ys : List Extent). count_in (take i offers) + length ys) at.extents

-- a test that one of the first passes
pub any_taken : (p : List Extent → Bool) (offers : List (List Extent)) (n i : ℕ) → i < n → i < length offers → p (get_or offers i []) ≡ true → list_any p (take n offers) ≡ true
any_taken p offers n i below known here = list_any_at p (take n offers) i [] (rw length-take (omega arith)) (ap p (get_or-take n offers i [] below) ∙ here)

-- a test that none of the first passes, nor the next
pub none_taken : (p : List Extent → Bool) (offers : List (List Extent)) (i : ℕ) → i < length offers → list_any p (take i offers) ≡ false → p (get_or offers i []) ≡ false → list_any p (take (i + 1) offers) ≡ false
none_taken p offers i known none other = list_any_more p offers i [] known ∙ rw (none, other) refl

-- the extents of the oldest offer and those of the others
pub oldest_first : (offers : List (List Extent)) → flat_map (λ xs. xs) offers ≡ oldest_of offers ++ flat_map (λ xs. xs) (drop 1 offers)
oldest_first [] = refl
oldest_first (xs ∷ offers) = refl
