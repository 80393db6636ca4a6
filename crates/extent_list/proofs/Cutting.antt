-- What a cut leaves: by the index of the extent that gives way, and what stays true of each extent.
use Rattle.std.proofs.lemmas.{Bool.and_parts, Bool.leb-true, List.drop-set, List.length-take-le, List.take-append-drop, List.take-set, List.Folds.find_at, List.Quantifiers.position-Some}
use Rattle.std.{proofs.lemmas.List.Sums.position_or_len_is, proofs.lemmas.Option.slice_get-get_or, specs.List.find, specs.List.position_or_len}
use Rattle.std.proofs.Common.{◌⊎◌, IfSome, slice_get, subst, inl, inr, ◌≡◌, ℕ, ◌+◌, ◌-◌, ◌^◌, ◌<◌, ◌≤◌, true, false, List, [], ◌∷◌, ◌++◌, Some, length, get_or, set, take, drop, refl, sym, ap, ◌∙◌, suc, zero, arith, length-append, length-drop}
use Rattle.dcd_base.specs.declared.capacity.Extent.{Extent}
use Rattle.extent_list.specs.{ExtentLists.cut, ExtentLists.has_range, ExtentLists.holder_of, ExtentLists.piece, ExtentLists.without, Rooms.IsCutInAddresses, Rooms.IsInAddresses}

-- the holder's index, and where the range lies in that extent
pub record Holds (start bytes : ℕ) (xs : List Extent) (i : ℕ) (x : Extent) : Type 0 where
  pub known : i < length xs
  pub begins : x.start ≤ start
  pub ends : start + bytes ≤ x.start + x.length

pub holds_at : (start bytes : ℕ) (xs : List Extent) (i : ℕ) (x : Extent) → holder_of start bytes xs ≡ Some i → x ≡ get_or xs i x → Holds start bytes xs i x
holds_at start bytes xs i x found is =
    let facts = position-Some (has_range start bytes) xs i x found in
    let here : has_range start bytes x ≡ true = ap (has_range start bytes) is ∙ facts.1 in
    let parts = and_parts _ _ here in
    record { known = facts.0; begins = leb-true _ _ parts.0; ends = leb-true _ _ parts.1 }

-- the first extent that has the range gives way, and those before and behind it stay
cut-first : (start bytes : ℕ) (xs : List Extent) (i : ℕ) (d : Extent) → i < length xs → has_range start bytes (get_or xs i d) ≡ true
    → ((k : ℕ) → k < i → has_range start bytes (get_or xs k d) ≡ false)
    → cut start bytes xs ≡ take i xs ++ (without (get_or xs i d) start bytes ++ drop (suc i) xs)
cut-first start bytes [] i d known here none = absurd (omega (arith, known))
cut-first start bytes (x ∷ xs) zero d known here none = rw here refl
cut-first start bytes (x ∷ xs) (suc i) d known here none =
    rw (none 0 (omega arith)) (ap (λ ys. x ∷ ys) (cut-first start bytes xs i d (omega (arith, known)) here (λ k below. none (suc k) (omega (arith, below)))))

pub cut-at : (start bytes : ℕ) (xs : List Extent) (i : ℕ) (x : Extent) → holder_of start bytes xs ≡ Some i → x ≡ get_or xs i x
    → cut start bytes xs ≡ take i xs ++ (without x start bytes ++ drop (suc i) xs)
cut-at start bytes xs i x found is =
    let facts = position-Some (has_range start bytes) xs i x found in
    cut-first start bytes xs i x facts.0 facts.1 facts.2 ∙ ap (λ y. take i xs ++ (without y start bytes ++ drop (suc i) xs)) (sym is)

-- one item in place of another
pub set_at : {X : Type 0} (xs : List X) (i : ℕ) (x : X) → i < length xs → set xs i x ≡ take i xs ++ (x ∷ drop (suc i) xs)
set_at xs i x known =
    let next : i + 1 ≡ suc i = omega arith in
    sym (take-append-drop i (set xs i x))
    ∙ ap (λ front. front ++ drop i (set xs i x)) (take-set xs i x)
    ∙ ap (λ rest. take i xs ++ rest) (drop-set xs i x known ∙ ap (λ k. x ∷ drop k xs) next)

-- where what remains above begins at an address, by the holder's index
pub in_addresses_at : (start bytes : ℕ) (xs : List Extent) (i : ℕ) (x : Extent) → holder_of start bytes xs ≡ Some i → x ≡ get_or xs i x
    → IsCutInAddresses start bytes xs → (start + bytes < 2 ^ 64) ⊎ IsInAddresses x
in_addresses_at start bytes xs i x found is (inl below) = inl below
in_addresses_at start bytes xs i x found is (inr whole) =
    let p = has_range start bytes in
    let facts = position-Some p xs i x found in
    let first : position_or_len p xs ≡ i = position_or_len_is p xs i x (omega (arith, facts.0)) facts.2 (λ below. facts.1) in
    let at : find p xs ≡ Some x = find_at p xs ∙ ap (slice_get xs) first ∙ slice_get-get_or xs i x facts.0 ∙ ap (λ y. Some y) (sym is) in
    inr (subst (λ o. IfSome o IsInAddresses) at whole)

pub length-cut : (start bytes : ℕ) (xs : List Extent) (i : ℕ) (x : Extent) → holder_of start bytes xs ≡ Some i → x ≡ get_or xs i x
    → length (cut start bytes xs) ≡ length xs - 1 + length (piece x x.start start) + length (piece x (start + bytes) (x.start + x.length))
length-cut start bytes xs i x found is =
    let known : i < length xs = (holds_at start bytes xs i x found is).known in
    let front = length-take-le i xs (omega (arith, known)) in
    let back = length-drop (suc i) xs in
    ap length (cut-at start bytes xs i x found is) ∙ simp (length-append) (omega (arith, front, back, known))
