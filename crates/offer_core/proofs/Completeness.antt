-- A response that lists extents of the oldest offer whole, in order and each at most once breaks no rule.
use Rattle.std.proofs.Common.{◌≡◌, ℕ, ◌+◌, ◌<◌, ◌≤◌, Bool, true, false, ◌&&◌, not, List, [], ◌∷◌, ◌++◌, None, length, map, refl, ap, ◌∙◌, inl, inr, ◌⊎◌, arith}
use Rattle.std.{proofs.lemmas.Iterator.Adapters.position_from-zero, proofs.lemmas.List.Elements.All-tail, specs.List.list_any, specs.List.position, specs.List.position_from}
use Rattle.std.specs.Prelude.{All, AllPairs, IsFalse, nat_le, nat_lt}
use Rattle.std.proofs.lemmas.Bool.{and_parts, and_right, cases_Bool, le-ltb, leb-true, ltb-true, ne_eqb, or_from, or_parts}
use Rattle.extent_list.specs.{ExtentLists.count_in, ExtentLists.count_of_tag, ExtentLists.is_whole, ExtentLists.marked, ExtentLists.overlaps, ExtentLists.tags_of, dcd_codes.specs.Rules.first_by}
use Rattle.extent_list.specs.dcd_codes.specs.dcd_base.specs.{Words.◌or◌, declared.capacity.Extent.Extent, declared.capacity.Tag.Tag, declared.ids.HostId.HostId}
use Rattle.extent_list.specs.media_map.{proofs.PlaceLemmas.has, proofs.RunLemmas.region_at_is, specs.Places.region_at, specs.region_config.specs.Configurations.Configuration}
use Rattle.extent_list.specs.media_map.specs.region_config.specs.{Granules.base_of, Granules.region_spec, Soundness.IsSound}
use Rattle.extent_list.specs.Listing.{incomplete, is_shareable_at, lies_in_region, is_aligned, misplaced, not_whole, shared_of, some_left, too_few_of}
use Rattle.offer_core.proofs.Counting.{count_in-cons}
use Rattle.offer_core.specs.{InOrder.AreSome, InOrder.none, InOrder.taken, InOrder.left, InOrder.IsInOrder, InOrder.IsSoundIn, InOrder.SameAddresses, Offerings.Offering, Offerings.lists_of}
use Rattle.offer_core.specs.{Responses.extent_rule, Responses.respond_rule, declared.offer.Offer.Offer}
use Rattle.offer_core.proofs.Owners.{AllPairs-first, AllPairs-others, All-first, AreSome-few, IsOwner, marked_all, owned, owner_in, owner_whole}

-- ---- no address twice

pub position_from-none : (p : Extent → Bool) (n : ℕ) (xs : List Extent) → list_any p xs ≡ false → position_from p n xs ≡ None
position_from-none p n [] e = refl
position_from-none p n (x ∷ xs) e = let parts = or_parts (p x) (list_any p xs) e in rw parts.0 (position_from-none p (n + 1) xs parts.1)

position-none : (p : Extent → Bool) (xs : List Extent) → list_any p xs ≡ false → position p xs ≡ None
position-none p xs e = position_from-zero p xs ∙ position_from-none p 0 xs e

overlaps-same : (x y a b : Extent) → SameAddresses x y → SameAddresses a b → overlaps x a ≡ overlaps y b
overlaps-same x y a b first second = rw (first.start, first.length, second.start, second.length) refl

overlaps_comm : (x y : Extent) → overlaps x y ≡ overlaps y x
overlaps_comm x y = and_comm (nat_lt x.start (y.start + y.length)) (nat_lt y.start (x.start + x.length))
  where
    and_comm : (a b : Bool) → (a && b) ≡ (b && a)
    and_comm true true = refl
    and_comm true false = refl
    and_comm false true = refl
    and_comm false false = refl

-- each is apart from those behind it
abbrev pub Apart : List Extent → Type 0
Apart [] = Unit {0}
Apart (x ∷ xs) = (list_any (overlaps x) xs ≡ false) × Apart xs

none_shares : (x y : Extent) → SameAddresses x y → {xs ys : List Extent} → AreSome SameAddresses xs ys → All (λ w. IsFalse (overlaps y w)) ys → list_any (overlaps x) xs ≡ false
none_shares x y same none apart = refl
none_shares x y same (taken {x = a} {y = b} {xs} {ys} is some) apart =
    or_from (overlaps x a) (list_any (overlaps x) xs) (overlaps-same x y a b same is ∙ All-first (λ w. IsFalse (overlaps y w)) b ys apart)
    (none_shares x y same some (All-tail (λ w. IsFalse (overlaps y w)) b ys apart))
none_shares x y same (left {y = b} {xs} {ys} some) apart = none_shares x y same some (All-tail (λ w. IsFalse (overlaps y w)) b ys apart)

some_apart : {xs ys : List Extent} → AreSome SameAddresses xs ys → AllPairs (λ x y. IsFalse (overlaps x y)) ys → Apart xs
some_apart none apart = tt
some_apart (taken {x} {y} {xs} {ys} same some) apart =
    (none_shares x y same some (AllPairs-first (λ a b. IsFalse (overlaps a b)) y ys apart), some_apart some (AllPairs-others (λ a b. IsFalse (overlaps a b)) y ys apart))
some_apart (left {y} {xs} {ys} some) apart = some_apart some (AllPairs-others (λ a b. IsFalse (overlaps a b)) y ys apart)

-- none of the list shares an address with one of those before
abbrev pub Clear : List Extent → List Extent → Type 0
Clear before [] = Unit {0}
Clear before (x ∷ xs) = (list_any (overlaps x) before ≡ false) × Clear before xs

any-push : (p : Extent → Bool) (before : List Extent) (x : Extent) → list_any p before ≡ false → p x ≡ false → list_any p (before ++ x ∷ []) ≡ false
any-push p [] x e f = or_from (p x) false f refl
any-push p (y ∷ before) x e f = let parts = or_parts (p y) (list_any p before) e in or_from (p y) (list_any p (before ++ x ∷ [])) parts.0 (any-push p before x parts.1 f)

clear-push : (before : List Extent) (x : Extent) (xs : List Extent) → Clear before xs → list_any (overlaps x) xs ≡ false → Clear (before ++ x ∷ []) xs
clear-push before x [] clear apart = tt
clear-push before x (y ∷ xs) clear apart =
    let parts = or_parts (overlaps x y) (list_any (overlaps x) xs) apart in
    (any-push (overlaps y) before x clear.0 (overlaps_comm y x ∙ parts.0), clear-push before x xs clear.1 parts.1)

clear-none : (xs : List Extent) → Clear [] xs
clear-none [] = tt
clear-none (x ∷ xs) = (refl, clear-none xs)

-- ---- each extent by itself

-- what is said of an extent is said of one with its addresses
sound-same : (c : Configuration) (h : HostId) (r : ℕ) (x y : Extent) → SameAddresses x y → IsSoundIn c h r y → IsSoundIn c h r x
sound-same c h r x y same sound = record {
  some = omega (arith, same.length, sound.some);
  within = (let is : lies_in_region c h r x ≡ lies_in_region c h r y = rw (same.start, same.length) refl in is ∙ sound.within);
  aligned = (let is : is_aligned c h r x ≡ is_aligned c h r y = rw (same.start, same.length) refl in is ∙ sound.aligned);
}

region_is : (c : Configuration) (h : HostId) (r : ℕ) (x : Extent) → IsSound c → h < c.hosts → IsSoundIn c h r x → region_at c h x.start ≡ r
region_is c h r x s host sound =
    let most = and_parts (nat_lt r (length c.regions) && nat_le (base_of c h r) x.start) (nat_le (x.start + x.length) (base_of c h r + (region_spec c r).length)) sound.within in
    let least = and_parts (nat_lt r (length c.regions)) (nat_le (base_of c h r) x.start) most.0 in
    let known : r < length c.regions = ltb-true _ _ least.0 in
    let from : base_of c h r ≤ x.start = leb-true _ _ least.1 in
    let to : x.start + x.length ≤ base_of c h r + (region_spec c r).length = leb-true _ _ most.1 in
    region_at_is c h s host x.start r known (has c h x.start r from (omega (arith, to, sound.some)))

misplaced-none : (c : Configuration) (h : HostId) (r i : ℕ) (x : Extent) → IsSoundIn c h r x → misplaced c h r i x ≡ None
misplaced-none c h r i x sound = rw (ne_eqb x.length 0 (λ e. absurd (omega (arith, e, sound.some))), sound.within, sound.aligned) refl

module _ (c : Configuration) (h : HostId) (r : ℕ) (s : IsSound c) (host : h < c.hosts) (offer : List Extent) where
  region_at-is : (x y : Extent) → IsOwner c h r offer x y → region_at c h x.start ≡ r
  region_at-is x y o = region_is c h r x s host (sound-same c h r x y o.same o.sound)

  not_whole-none : (i : ℕ) (x y : Extent) → IsOwner c h r offer x y → not_whole c h offer i x ≡ None
  not_whole-none i x y o =
      let whole : not (is_whole offer x) ≡ false = ap not (owner_whole c h r offer x y o) in
      rw (and_right (is_shareable_at c h x) (not (is_whole offer x)) whole) refl

  extent_none : (before : List Extent) (x y : Extent) → IsOwner c h r offer x y → list_any (overlaps x) before ≡ false → extent_rule c h offer before x ≡ None
  extent_none before x y o clear =
      let placed : misplaced c h (region_at c h x.start) (length before) x ≡ None =
      ap (λ k. misplaced c h k (length before) x) (region_at-is x y o) ∙ misplaced-none c h r (length before) x (sound-same c h r x y o.same o.sound) in
      rw (placed, owner_in c h r offer x y o, position-none (overlaps x) before clear, not_whole-none (length before) x y o) refl

  each_none : (before : List Extent) {xs ys : List Extent} → AreSome (IsOwner c h r offer) xs ys → Clear before xs → Apart xs → first_by (extent_rule c h offer) before xs ≡ None
  each_none before none clear apart = refl
  each_none before (taken {x} {y} {xs} {ys} o some) clear apart =
      ap (λ found. found or first_by (extent_rule c h offer) (before ++ x ∷ []) xs) (extent_none before x y o clear.0)
      ∙ each_none (before ++ x ∷ []) some (clear-push before x xs clear.1 apart.0) apart.1
  each_none before (left some) clear apart = each_none before some clear apart

  -- ---- the extents of a tag

  shareable_is : (x y : Extent) → IsOwner c h r offer x y → is_shareable_at c h (marked offer x) ≡ (region_spec c r).shareable
  shareable_is x y o = ap (λ k. (region_spec c k).shareable) (region_at-is x y o)

  shared-none : (region_spec c r).shareable ≡ false → {xs ys : List Extent} → AreSome (IsOwner c h r offer) xs ys → shared_of c h offer xs ≡ []
  shared-none private none = refl
  shared-none private (taken {x} {y} o some) = rw (shareable_is x y o ∙ private) (shared-none private some)
  shared-none private (left some) = shared-none private some

  shared-all : (region_spec c r).shareable ≡ true → {xs ys : List Extent} → AreSome (IsOwner c h r offer) xs ys → shared_of c h offer xs ≡ map (marked offer) xs
  shared-all shared none = refl
  shared-all shared (taken {x} {y} o some) = rw (shareable_is x y o ∙ shared) (ap (λ rest. marked offer x ∷ rest) (shared-all shared some))
  shared-all shared (left some) = shared-all shared some

-- of each tag as many are listed as there are
all_of_each : (xs : List Extent) (before tags : List Tag) → first_by (λ seen t. too_few_of xs xs t) before tags ≡ None
all_of_each xs before [] = refl
all_of_each xs before (t ∷ tags) = rw (le-ltb (count_of_tag t xs) (count_of_tag t xs) (omega arith)) (all_of_each xs (before ++ t ∷ []) tags)

incomplete-none : (c : Configuration) (h : HostId) (s : IsSound c) (host : h < c.hosts) (r : ℕ) (offer : Offer) (list : List Extent) →
    AreSome (IsOwner c h r offer.extents) list offer.extents → ((region_spec c r).shareable ≡ true → (list ≡ []) ⊎ (length list ≡ length offer.extents)) →
    incomplete c h offer.extents list ≡ None
incomplete-none c h s host r offer list some whole = elim (cases_Bool (region_spec c r).shareable) [
  | inr private ↦ ap (some_left offer.extents) (shared-none c h r s host offer.extents private some)
  | inl shared ↦ elim (whole shared) [
    | inl nothing ↦ ap (incomplete c h offer.extents) nothing
    | inr many ↦ ap (some_left offer.extents) (shared-all c h r s host offer.extents shared some ∙ marked_all c h r offer.extents some many) ∙ all_of_each offer.extents [] (tags_of offer.extents)
  ]
]

-- ---- the row

pub in_order_breaks_nothing : (c : Configuration) (h : HostId) (accepted : ℕ) (old : Offering) (more : Bool) (list : List Extent) →
    IsSound c → h < c.hosts → accepted + count_in (lists_of old.offers) ≤ 64 → IsInOrder c h old more list →
    respond_rule c h accepted (lists_of old.offers) old.held more list ≡ None
in_order_breaks_nothing c h accepted old more list s host few i =
    let offer : List Extent = i.offer.extents in
    let later : List (List Extent) = lists_of i.later in
    let offered : lists_of old.offers ≡ offer ∷ later = ap lists_of i.oldest in
    let all : count_in (lists_of old.offers) ≡ length offer + count_in later = ap count_in offered ∙ count_in-cons offer later in
    let owners = owned c h i.region i.some i.sound.each i.sound.apart in
    let fewer = AreSome-few i.some in
    let listed : nat_lt 64 (length list) ≡ false = le-ltb 64 (length list) (omega (arith, few, all, fewer)) in
    let together : nat_lt 64 (accepted + length list + count_in later) ≡ false = le-ltb 64 (accepted + length list + count_in later) (omega (arith, few, all, fewer)) in
    let each = each_none c h i.region s host offer [] owners (clear-none list) (some_apart i.some i.sound.apart) in
    let tags = incomplete-none c h s host i.region i.offer list owners i.shared in
    rw (offered, i.alone, i.last, listed, each, tags, together) refl
