-- Extents that may leave their host break none of the rules of a list of such extents.
use Rattle.std.proofs.Common.{◌≡◌, ℕ, ◌+◌, Bool, true, false, not, ◌&&◌, ◌||◌, List, [], ◌∷◌, ◌++◌, length, None, refl, ap, ◌∙◌, arith, eqb, leb, ltb}
use Rattle.std.proofs.lemmas.{Bool.ne_eqb, Bool.or_from, Iterator.Adapters.position_from-zero, List.Folds.list_any-append}
use Rattle.std.specs.{List.AllByRecursion, List.list_any, List.position, Prelude.Option}
use Rattle.dcd_base.specs.declared.{capacity.Extent.Extent, ids.HostId.HostId}
use Rattle.dcd_codes.specs.{Rules.each_in, Rules.first_by, declared.rules.Rule.Rule}
use Rattle.extent_list.specs.{ExtentLists.is_in, ExtentLists.is_whole, ExtentLists.overlaps, Listing.is_shareable_at, Listing.lies_in_region, Listing.misplaced}
use Rattle.media_map.specs.Places.{region_at}
use Rattle.region_config.specs.{Configurations.Configuration, Granules.region_spec, Granules.with_blocks}
use Rattle.isolation_laws.specs.device_rules.proofs.{AllLeave.Behind, Going.IsGoing, Holding.made_aligned, Holding.made_lies}
use Rattle.isolation_laws.specs.device_rules.proofs.{Homes.base_same, Homes.length_same, Homes.region_at_same, Homes.regions_same, Homes.shareable_same, LeftStanding.going_rule, ListSteps.each-both}
use Rattle.isolation_laws.specs.device_rules.{proofs.Overlaps.Spread, specs.Pictures.Picture, specs.Standing.IsMade}
use Rattle.offer_core.proofs.Completeness.{position_from-none}

-- ---- a row over a list that is spread out

position-none : (p : Extent → Bool) (xs : List Extent) → list_any p xs ≡ false → position p xs ≡ None
position-none p xs e = position_from-zero p xs ∙ position_from-none p 0 xs e

spread_from : (before xs : List Extent) → AllByRecursion (λ y. list_any (overlaps y) before ≡ false) xs → Behind xs → Spread before xs
spread_from before [] apart behind = tt
spread_from before (x ∷ xs) apart behind = (
  apart.0,
  spread_from (before ++ x ∷ []) xs
      (each-both (λ y. list_any (overlaps y) before ≡ false) (λ y. overlaps y x ≡ false) (λ y. list_any (overlaps y) (before ++ x ∷ []) ≡ false)
      (λ y a b. list_any-append (overlaps y) before (x ∷ []) ∙ or_from (list_any (overlaps y) before) (overlaps y x || false) a (or_from (overlaps y x) false b refl)) xs apart.1 behind.0)
      behind.1,
)

none_before : (xs : List Extent) → AllByRecursion (λ y. list_any (overlaps y) [] ≡ false) xs
none_before [] = tt
none_before (x ∷ xs) = (refl, none_before xs)

first_none : (check : List Extent → Extent → Option Rule) (P : Extent → Type 0) → ((before : List Extent) (x : Extent) → list_any (overlaps x) before ≡ false → P x → check before x ≡ None)
    → (before xs : List Extent) → Spread before xs → AllByRecursion P xs → first_by check before xs ≡ None
first_none check P step before [] spread each = refl
first_none check P step before (x ∷ xs) spread each = rw (step before x spread.0 each.0) (first_none check P step (before ++ x ∷ []) xs spread.1 each.1)

-- ---- the extents of the list

module _ (c : Configuration) (p : Picture) (h : HostId) where
  lies_same : (r : ℕ) (x : Extent) → lies_in_region (with_blocks c p.block) h r x ≡ lies_in_region c h r x
  lies_same r x = λ i. ltb r (regions_same c p.block i) && leb (base_same c p.block h r i) x.start && leb (x.start + x.length) (base_same c p.block h r i + length_same c p.block r i)

  pub well_placed : (r i : ℕ) (x : Extent) → IsMade c (p.block r) h r x → misplaced (with_blocks c p.block) h r i x ≡ None
  well_placed r i x m =
      let some : eqb x.length 0 ≡ false = ne_eqb x.length 0 (λ e. absurd (omega (arith, e, m.some))) in
      rw (some, lies_same r x ∙ made_lies c (p.block r) h r x m, made_aligned c p.block h r x m) refl

  pub share_same : (x : Extent) → is_shareable_at (with_blocks c p.block) h x ≡ (region_spec c (region_at c h x.start)).shareable
  share_same x = shareable_same c p.block (region_at (with_blocks c p.block) h x.start) ∙ ap (λ r. (region_spec c r).shareable) (region_at_same c p.block h x.start)

  -- what a rule asks of an extent beside those before it
  record MayGo (region : Extent → ℕ) (x : Extent) : Type 0 where
    place : region x ≡ region_at c h x.start
    made : IsMade c (p.block (region_at c h x.start)) h (region_at c h x.start) x
    inside : is_in (p.accepted h) x ≡ true
    whole : (region_spec c (region_at c h x.start)).shareable ≡ true → is_whole (p.accepted h) x ≡ true

  one_none : (region : Extent → ℕ) (before : List Extent) (x : Extent) → list_any (overlaps x) before ≡ false → MayGo region x → going_rule (with_blocks c p.block) h (p.accepted h) region before x ≡ None
  one_none region before x apart m =
      let w : Configuration = with_blocks c p.block in
      let placed : misplaced (with_blocks c p.block) h (region x) (length before) x ≡ None =
      ap (λ r. misplaced w h r (length before) x) m.place ∙ well_placed (region_at c h x.start) (length before) x m.made in
      let whole : (is_shareable_at (with_blocks c p.block) h x && not (is_whole (p.accepted h) x)) ≡ false = ap (λ b. b && not (is_whole (p.accepted h) x)) (share_same x) ∙ both (region_spec c (region_at c h x.start)).shareable refl in
      rw (placed, m.inside, position-none (overlaps x) before apart, whole) refl
    where
      both : (b : Bool) → (region_spec c (region_at c h x.start)).shareable ≡ b → (b && not (is_whole (p.accepted h) x)) ≡ false
      both true shared = ap not (m.whole shared)
      both false private = refl

  pub each_may_go : (region : Extent → ℕ) (ys : List Extent) → IsGoing c p h ys → AllByRecursion (λ y. region y ≡ region_at c h y.start) ys
      → each_in ys (going_rule (with_blocks c p.block) h (p.accepted h) region) ≡ None
  each_may_go region ys g places =
      let R : Extent → ℕ = λ y. region_at c h y.start in
      let first = each-both (λ y. IsMade c (p.block (R y)) h (R y) y) (λ y. is_in (p.accepted h) y ≡ true) (λ y. IsMade c (p.block (R y)) h (R y) y × (is_in (p.accepted h) y ≡ true)) (λ y a b. (a, b)) ys g.made g.inside in
      let second = each-both (λ y. region y ≡ R y) (λ y. (region_spec c (R y)).shareable ≡ true → is_whole (p.accepted h) y ≡ true)
      (λ y. (region y ≡ R y) × ((region_spec c (R y)).shareable ≡ true → is_whole (p.accepted h) y ≡ true)) (λ y a b. (a, b)) ys places g.whole in
      let all = each-both (λ y. IsMade c (p.block (R y)) h (R y) y × (is_in (p.accepted h) y ≡ true))
      (λ y. (region y ≡ R y) × ((region_spec c (R y)).shareable ≡ true → is_whole (p.accepted h) y ≡ true)) (MayGo region)
      (λ y a b. record { place = b.0; made = a.0; inside = a.1; whole = b.1 }) ys first second in
      first_none (going_rule (with_blocks c p.block) h (p.accepted h) region) (MayGo region) (one_none region) [] ys (spread_from [] ys (none_before ys) g.behind) all
