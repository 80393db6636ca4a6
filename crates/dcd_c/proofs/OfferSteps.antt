-- The extents of offers, one offer after another.
use Rattle.std.proofs.Common.{◌≡◌, ℕ, zero, suc, ◌+◌, ◌%◌, ◌^◌, ◌<◌, ◌≤◌, List, [], ◌∷◌, ◌++◌, sym, ap, ◌∙◌, append-nil, arith, drop, length, map, refl, subst, sum_by, take}
use Rattle.std.proofs.lemmas.List.{append_assoc, length-append, length-map, length-take-le, take-append-drop, take_more, Sums.sum_by-append, Sums.sum_by-cons, Sums.sum_by_push}
use Rattle.std.{proofs.lemmas.Option.get_or_from_slice_get, proofs.lemmas.Option.slice_get_within, specs.Prelude.Some, specs.Prelude.slice_get}
use Rattle.dcd_base.specs.declared.{capacity.Extent.Extent, ids.HostId.HostId}
use Rattle.region_config.specs.Configurations.{Configuration}
use Rattle.journal_core.specs.{Entries.effects, declared.entries.Entry.Entry}
use Rattle.device_plain.specs.Lives.{ByEveryLife, IsAlive, IsLife, Living}
use Rattle.device_plain.specs.control_core.specs.{Pasts.ByEveryPast, Pasts.IsPast, Pasts.LiveControlled, manager_commands.proofs.FewExtents.few_extents}
use Rattle.device_plain.specs.{device_rules.specs.Hosts.offers_of, device_state.specs.StateAfter.part_of}
use Rattle.extent_list.specs.HostLists.{Lists}
use Rattle.dcd_c.specs.Lists.{extent_told, offers_from}

-- one more offer
pub offers_push : (n : ℕ) (offers : List (List Extent)) (xs : List Extent) → offers_from n (offers ++ xs ∷ []) ≡ offers_from n offers ++ map (extent_told ((n + length offers) % 2 ^ 16)) xs
offers_push n [] xs =
    let e : n ≡ n + zero = omega arith in
    append-nil (map (extent_told (n % 2 ^ 16)) xs) ∙ ap (λ k. map (extent_told (k % 2 ^ 16)) xs) e
offers_push n (ys ∷ offers) xs =
    let e : suc n + length offers ≡ n + suc (length offers) = omega arith in
    ap (λ zs. map (extent_told (n % 2 ^ 16)) ys ++ zs) (offers_push (suc n) offers xs ∙ ap (λ k. offers_from (suc n) offers ++ map (extent_told (k % 2 ^ 16)) xs) e)
    ∙ sym (append_assoc (map (extent_told (n % 2 ^ 16)) ys) (offers_from (suc n) offers) (map (extent_told ((n + suc (length offers)) % 2 ^ 16)) xs))

pub offers_count : (n : ℕ) (offers : List (List Extent)) → length (offers_from n offers) ≡ sum_by (λ (xs : List Extent). length xs) offers
offers_count n [] = refl
offers_count n (ys ∷ offers) =
    let f = extent_told (n % 2 ^ 16) in
    length-append (map f ys) (offers_from (suc n) offers) ∙ ap (λ k. k + length (offers_from (suc n) offers)) (length-map ys f) ∙ ap (λ k. length ys + k) (offers_count (suc n) offers) ∙ sym (sum_by-cons (λ (xs : List Extent). length xs) ys offers)

-- ---- the offers that are kept

module _ (d : Living) (alive : IsAlive d) (k : LiveControlled) (config : k.config ≡ d.config) (pasts : ByEveryLife d (λ life. IsPast d.config life k.state)) (h : HostId) (known : h < d.config.hosts) where
  abbrev kept : List (List Extent)
  kept = (part_of k.state h).lists.offers

  past : IsPast d.config alive.life k.state
  past = pasts alive.life alive.leads

  here : IsPast k.config alive.life k.state
  here = subst (λ (c : Configuration). IsPast c alive.life k.state) (sym config) past

  -- they are those of every journal
  pub offers_kept : (life : List Entry) → IsLife life d → kept ≡ offers_of h (effects life)
  offers_kept life leads = ap (λ (l : Lists). l.offers) ((pasts life leads).kept.parts h known).lists_are

  -- their extents are few
  pub few_offered : sum_by (λ (xs : List Extent). length xs) kept ≤ 64
  few_offered = omega (arith, few_extents d.config k.state (record { journal = alive.life; sound = past.sound; legal = past.legal; kept = past.kept }) h known)

  -- how many they are, and each of them
  pub offers_number : (n : ℕ) → ByEveryPast k (λ life. n ≡ length (offers_of h (effects life))) → n ≡ length kept
  offers_number n told = told alive.life here ∙ ap length (sym (offers_kept alive.life alive.leads))

  pub offer_kept : (i : ℕ) (xs : List Extent) → ByEveryPast k (λ life. slice_get (offers_of h (effects life)) i ≡ Some xs) → slice_get kept i ≡ Some xs
  offer_kept i xs told = ap (λ (offers : List (List Extent)). slice_get offers i) (offers_kept alive.life alive.leads) ∙ told alive.life here

-- one more of them
pub offers_more : (offers : List (List Extent)) (i : ℕ) (xs : List Extent) → slice_get offers i ≡ Some xs → take (i + 1) offers ≡ take i offers ++ xs ∷ []
offers_more offers i xs is = take_more offers i [] (slice_get_within offers i xs is) ∙ ap (λ ys. take i offers ++ ys ∷ []) (get_or_from_slice_get offers i xs [] is)

pub sum_more : (offers : List (List Extent)) (i : ℕ) (xs : List Extent) → slice_get offers i ≡ Some xs
    → sum_by (λ (ys : List Extent). length ys) (take (i + 1) offers) ≡ sum_by (λ (ys : List Extent). length ys) (take i offers) + length xs
sum_more offers i xs is = ap (sum_by (λ (ys : List Extent). length ys)) (offers_more offers i xs is) ∙ sum_by_push (λ (ys : List Extent). length ys) (take i offers) xs

pub sum_front : (offers : List (List Extent)) (n : ℕ) → sum_by (λ (ys : List Extent). length ys) (take n offers) ≤ sum_by (λ (ys : List Extent). length ys) offers
sum_front offers n =
    let f = λ (ys : List Extent). length ys in
    omega (arith, ap (sum_by f) (sym (take-append-drop n offers)) ∙ sum_by-append f (take n offers) (drop n offers))

-- the next one's extents have room
pub offers_room : (offers : List (List Extent)) (i : ℕ) (xs : List Extent) → slice_get offers i ≡ Some xs → length (offers_from 0 (take i offers)) + length xs ≤ length (offers_from 0 offers)
offers_room offers i xs is =
    omega (arith, offers_count 0 (take i offers), offers_count 0 offers, sum_front offers (i + 1), sum_more offers i xs is)

-- what is told of the first i + 1 of them
pub told_more : (offers : List (List Extent)) (i : ℕ) (xs : List Extent) → slice_get offers i ≡ Some xs
    → offers_from 0 (take (i + 1) offers) ≡ offers_from 0 (take i offers) ++ map (extent_told (i % 2 ^ 16)) xs
told_more offers i xs is =
    let below : i < length offers = slice_get_within offers i xs is in
    let front : 0 + length (take i offers) ≡ i = omega (arith, length-take-le i offers (omega (arith, below))) in
    ap (offers_from 0) (offers_more offers i xs is) ∙ offers_push 0 (take i offers) xs
    ∙ ap (λ n. offers_from 0 (take i offers) ++ map (extent_told (n % 2 ^ 16)) xs) front
