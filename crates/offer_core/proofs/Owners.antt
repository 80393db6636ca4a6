-- An extent that is listed whole lies first in the very extent that it lists.
use Rattle.std.proofs.Common.{◌≡◌, ℕ, suc, ◌+◌, ◌<◌, ◌≤◌, Bool, true, false, List, [], ◌∷◌, Some, length, map, refl, sym, ap, subst, ◌∙◌, inl, inr, arith}
use Rattle.std.proofs.lemmas.{Bool.and_from, Bool.and_parts, Bool.cases_Bool, Bool.eq-eqb, Bool.false≢true, Bool.le-leb, Bool.leb-true, Bool.lt-ltb, List.Elements.All-tail}
use Rattle.std.{proofs.lemmas.Option.none-some, proofs.lemmas.Option.same_Some, specs.List.find, specs.List.list_any}
use Rattle.std.specs.Prelude.{All, AllPairs, IsFalse, nat_le, nat_lt, unwrap_or}
use Rattle.extent_list.specs.ExtentLists.{is_in, is_whole, lies_in, marked, overlaps, owner_of}
use Rattle.extent_list.specs.dcd_codes.specs.dcd_base.specs.declared.{capacity.Extent.Extent, ids.HostId.HostId}
use Rattle.extent_list.specs.media_map.specs.region_config.specs.Configurations.{Configuration}
use Rattle.offer_core.specs.InOrder.{AreSome, none, taken, left, IsSoundIn, SameAddresses}

-- a list's first, and the others
pub All-first : {X : Type 0} (P : X → Type 0) (x : X) (xs : List X) → All P (x ∷ xs) → P x
All-first P x xs all = all 0 x (omega arith)

pub AllPairs-first : {X : Type 0} (R : X → X → Type 0) (x : X) (xs : List X) → AllPairs R (x ∷ xs) → All (R x) xs
AllPairs-first R x xs all = λ k d below. all 0 (suc k) d (omega arith) (omega (arith, below))

pub AllPairs-others : {X : Type 0} (R : X → X → Type 0) (x : X) (xs : List X) → AllPairs R (x ∷ xs) → AllPairs R xs
AllPairs-others R x xs all = λ i j d less below. all (suc i) (suc j) d (omega (arith, less)) (omega (arith, below))

pub AreSome-map : {P Q : Extent → Extent → Type 0} {xs ys : List Extent} → ((x y : Extent) → P x y → Q x y) → AreSome P xs ys → AreSome Q xs ys
AreSome-map f none = none
AreSome-map f (taken {x} {y} is some) = taken (f x y is) (AreSome-map f some)
AreSome-map f (left some) = left (AreSome-map f some)

pub AreSome-few : {P : Extent → Extent → Type 0} {xs ys : List Extent} → AreSome P xs ys → length xs ≤ length ys
AreSome-few none = omega arith
AreSome-few (taken is some) = omega (arith, AreSome-few some)
AreSome-few (left some) = omega (arith, AreSome-few some)

-- what holds of each holds of the one that is found
found_has : {X : Type 0} (P : X → Type 0) (p : X → Bool) (xs : List X) (y : X) → All P xs → find p xs ≡ Some y → P y
found_has P p [] y all found = absurd (none-some y found)
found_has P p (x ∷ xs) y all found = elim (cases_Bool (p x)) [
  | inl here ↦ subst P (same_Some x y (rw here at found)) (All-first P x xs all)
  | inr fails ↦ found_has P p xs y (All-tail P x xs all) (rw fails at found)
]

-- where one is found, one passes
found_any : {X : Type 0} (p : X → Bool) (xs : List X) (y : X) → find p xs ≡ Some y → list_any p xs ≡ true
found_any p [] y found = absurd (none-some y found)
found_any p (x ∷ xs) y found = elim (cases_Bool (p x)) [
  | inl here ↦ rw here refl
  | inr fails ↦ rw fails (found_any p xs y (rw fails at found))
]

-- y is the first of the owners in which x lies, and has its addresses
pub record IsOwner (c : Configuration) (h : HostId) (r : ℕ) (owners : List Extent) (x y : Extent) : Type 0 where
  pub found : find (lies_in x) owners ≡ Some y
  pub same : SameAddresses x y
  pub sound : IsSoundIn c h r y

lies_in-same : (x y : Extent) → SameAddresses x y → lies_in x y ≡ true
lies_in-same x y same = and_from (nat_le y.start x.start) (nat_le (x.start + x.length) (y.start + y.length)) (le-leb _ _ (omega (arith, same.start))) (le-leb _ _ (omega (arith, same.start, same.length)))

-- an extent that has all of another shares an address with it
inside_overlaps : (x y z : Extent) → SameAddresses x y → 0 < y.length → lies_in x z ≡ true → overlaps z y ≡ true
inside_overlaps x y z same some inside =
    let parts = and_parts (nat_le z.start x.start) (nat_le (x.start + x.length) (z.start + z.length)) inside in
    let from : z.start ≤ x.start = leb-true _ _ parts.0 in
    let to : x.start + x.length ≤ z.start + z.length = leb-true _ _ parts.1 in
    and_from (nat_lt z.start (y.start + y.length)) (nat_lt y.start (z.start + z.length))
    (lt-ltb _ _ (omega (arith, from, same.start, some))) (lt-ltb _ _ (omega (arith, to, same.start, same.length, some)))

-- one more owner in front, apart from the others
owner_more : (c : Configuration) (h : HostId) (r : ℕ) (z : Extent) (ys : List Extent) (x y : Extent) → All (λ w. IsFalse (overlaps z w)) ys → IsOwner c h r ys x y → IsOwner c h r (z ∷ ys) x y
owner_more c h r z ys x y apart o = elim (cases_Bool (lies_in x z)) [
  | inl inside ↦ absurd (false≢true (sym (found_has (λ w. overlaps z w ≡ false) (lies_in x) ys y apart o.found) ∙ inside_overlaps x y z o.same o.sound.some inside))
  | inr outside ↦ record { found = rw outside o.found; same = o.same; sound = o.sound }
]

pub owned : (c : Configuration) (h : HostId) (r : ℕ) {xs ys : List Extent} → AreSome SameAddresses xs ys → All (IsSoundIn c h r) ys → AllPairs (λ x y. IsFalse (overlaps x y)) ys → AreSome (IsOwner c h r ys) xs ys
owned c h r none sound apart = none
owned c h r (taken {x} {y} {xs} {ys} same some) sound apart =
    let rest = owned c h r some (All-tail (IsSoundIn c h r) y ys sound) (AllPairs-others (λ a b. IsFalse (overlaps a b)) y ys apart) in
    taken (record { found = rw (lies_in-same x y same) refl; same = same; sound = All-first (IsSoundIn c h r) y ys sound })
    (AreSome-map (λ a b. owner_more c h r y ys a b (AllPairs-first (λ a b. IsFalse (overlaps a b)) y ys apart)) rest)
owned c h r (left {y} {xs} {ys} some) sound apart =
    let rest = owned c h r some (All-tail (IsSoundIn c h r) y ys sound) (AllPairs-others (λ a b. IsFalse (overlaps a b)) y ys apart) in
    left (AreSome-map (λ a b. owner_more c h r y ys a b (AllPairs-first (λ a b. IsFalse (overlaps a b)) y ys apart)) rest)

module _ (c : Configuration) (h : HostId) (r : ℕ) (owners : List Extent) where
  owner_is : (x y : Extent) → IsOwner c h r owners x y → owner_of owners x ≡ y
  owner_is x y o = ap (λ found. unwrap_or found x) o.found

  pub owner_in : (x y : Extent) → IsOwner c h r owners x y → is_in owners x ≡ true
  owner_in x y o = found_any (lies_in x) owners y o.found

  pub owner_whole : (x y : Extent) → IsOwner c h r owners x y → is_whole owners x ≡ true
  owner_whole x y o = rw (owner_is x y o, eq-eqb _ _ o.same.start, eq-eqb _ _ o.same.length) refl

  marked_owner : (x y : Extent) → IsOwner c h r owners x y → marked owners x ≡ y
  marked_owner x y o = rw (owner_is x y o) (λ i. record { start = o.same.start i; length = o.same.length i; tag = y.tag; sequence = y.sequence })

  -- where all are listed, they are what is accepted
  pub marked_all : {xs ys : List Extent} → AreSome (IsOwner c h r owners) xs ys → length xs ≡ length ys → map (marked owners) xs ≡ ys
  marked_all none many = refl
  marked_all (taken {x} {y} {xs} {ys} o some) many =
      ap (λ first. first ∷ map (marked owners) xs) (marked_owner x y o) ∙ ap (λ rest. y ∷ rest) (marked_all some (omega (arith, many)))
  marked_all (left some) many = absurd (omega (arith, many, AreSome-few some))
