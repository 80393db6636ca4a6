-- What stands once extents have left their host, and which tags that may end.
use Rattle.std.proofs.Common.{◌≡◌, ◌⊎◌, ℕ, ◌+◌, ◌<◌, ◌≤◌, true, false, not, ◌&&◌, ◌||◌, ◌==◌, List, [], ◌++◌, length, map, None, ap, sym, subst, ◌∙◌, inl, inr, arith, length-append}
use Rattle.std.{specs.Prelude.Option, specs.Prelude.flat_map, specs.List.AllByRecursion, specs.List.list_any, proofs.lemmas.List.Concat.length-flat_map}
use Rattle.std.proofs.lemmas.Bool.{and_cases, and_from, and_parts, cases_Bool, eqb-true, false≢true, not-false, or_left, or_right}
use Rattle.cci_codec.specs.dcd_base.specs.{Limits.extents_supported, Words.◌or◌, Words.has_tag, Words.is_zero_tag, Words.same_tag, declared.capacity.Extent.Extent, declared.capacity.Tag.Tag}
use Rattle.cci_codec.specs.dcd_base.specs.declared.ids.HostId.{HostId}
use Rattle.extent_list.specs.ExtentLists.{count_in, has_extent_of, is_in, is_whole, marked, owner_of, tags_of}
use Rattle.extent_list.specs.{Listing.incomplete, Listing.is_shareable_at, Listing.misplaced, Listing.not_whole, Listing.overlapping, dcd_codes.specs.Rules.◌breaks◌, dcd_codes.specs.Rules.each_in}
use Rattle.extent_list.specs.{dcd_codes.specs.declared.rules.Rule.Rule, media_map.specs.Places.region_at, media_map.specs.region_config.specs.Configurations.Configuration}
use Rattle.extent_list.specs.media_map.specs.region_config.specs.{Granules.hosts_of, Granules.region_spec, Granules.with_blocks, Soundness.IsSound}
use Rattle.selection.proofs.{Placed.IsPlaced, Placed.placed, Prescribed.neither}
use Rattle.device_rules.proofs.{AllLeave.IsLeft, AllLeave.behind_from, Going.IsGoing, Homes.made_region, Homes.placed_made, Homes.region_at_same, Homes.shareable_same}
use Rattle.device_rules.proofs.{ListSteps.any-map, ListSteps.each-change, OneAnswer.tags_of-has, OneLeave.loose, OneLeave.stands_from, OneLeave.whole_blocks, OneOffer.any-implies}
use Rattle.device_rules.proofs.{Overlaps.Spread, Overlaps.not_broken, Overlaps.row_each, Overlaps.row_spread, Settling.any-range}
use Rattle.device_rules.specs.{Pictures.Picture, Pictures.extents_at, Pictures.is_with_a_host, Pictures.lives, Standing.IsMade, Standing.Sound, Standing.Stands}

module _ (c : Configuration) (sound : IsSound c) (p : Picture) (before : Sound c p) (h : HostId) (host : h < c.hosts) (W : Extent → Type 0)
    (of_shared : (y : Extent) → (region_spec c (region_at c h y.start)).shareable ≡ true → W y) (q : Picture) (ys : List Extent)
    (left : IsLeft c sound h host (λ y. (owner_of (p.accepted h) y).tag) W of_shared p q ys) where
  s : Stands c p
  s = before.stands

  -- with few extents, all that stood stands
  pub left_stands : length (q.accepted h) + count_in (p.offers h) ≤ extents_supported → Stands c q
  left_stands few = stands_from c q left.loose (λ k. elim (cases_Bool (h == k)) [
    | inl same ↦ subst (λ l. length (extents_at q l) ≤ extents_supported) (eqb-true h k same) here
    | inr other ↦ (let lists : extents_at q k ≡ extents_at p k = λ i. left.same_accepted k other i ++ flat_map (λ xs. xs) (left.same_offers k i) in
        subst (λ xs. length xs ≤ extents_supported) (sym lists) (s.few k))
  ])
    where
      here : length (extents_at q h) ≤ extents_supported
      here =
          let offered : length (flat_map (λ xs. xs) (q.offers h)) ≡ count_in (p.offers h) = ap (λ os. length (flat_map (λ xs. xs) os)) (left.same_offers h) ∙ length-flat_map (λ xs. xs) (p.offers h) in
          omega (arith, few, offered, length-append (q.accepted h) (flat_map (λ xs. xs) (q.offers h)))

  -- a tag that does not live on is one of those that left
  hosts_stay : (t : Tag) → has_extent_of t (p.accepted h) ≡ false → (k : HostId) → (has_extent_of t (p.accepted k) || list_any (has_extent_of t) (p.offers k)) ≡ true
      → (has_extent_of t (q.accepted k) || list_any (has_extent_of t) (q.offers k)) ≡ true
  hosts_stay t none_held k has = elim (cases_Bool (h == k)) [
    | inr other ↦ (λ i. has_extent_of t (left.same_accepted k other i) || list_any (has_extent_of t) (left.same_offers k i)) ∙ has
    | inl same ↦ (let not_held : has_extent_of t (p.accepted k) ≡ false = subst (λ l. has_extent_of t (p.accepted l) ≡ false) (eqb-true h k same) none_held in
        or_right (has_extent_of t (q.accepted k)) (list_any (has_extent_of t) (q.offers k)) (ap (list_any (has_extent_of t)) (left.same_offers k) ∙ (rw not_held at has)))
  ]

  still_hosts : (t : Tag) → is_with_a_host c p t ≡ true → (is_with_a_host c q t ≡ true) ⊎ (list_any (λ y. same_tag (owner_of (p.accepted h) y).tag t) ys ≡ true)
  still_hosts t hosts = elim (cases_Bool (has_extent_of t (p.accepted h))) [
    | inr none_held ↦ inl (any-implies (λ k. has_extent_of t (p.accepted k) || list_any (has_extent_of t) (p.offers k)) (λ k. has_extent_of t (q.accepted k) || list_any (has_extent_of t) (q.offers k)) (hosts_of c) (hosts_stay t none_held) hosts)
    | inl held ↦ elim (left.kept t held) [
      | inr gone ↦ inr gone
      | inl still ↦ inl (any-range (λ k. has_extent_of t (q.accepted k) || list_any (has_extent_of t) (q.offers k)) 0 c.hosts h (omega arith) (omega (arith, host)) (or_left (has_extent_of t (q.accepted h)) (list_any (has_extent_of t) (q.offers h)) still))
    ]
  ]

  pub left_lives : (t : Tag) → has_tag q.tags t ≡ true → (lives c q t ≡ true) ⊎ ((has_tag p.tags t ≡ true) × (list_any (λ y. same_tag (owner_of (p.accepted h) y).tag t) ys ≡ true))
  left_lives t e =
      let was : has_tag p.tags t ≡ true = ap (λ tags. has_tag tags t) (sym left.same_tags) ∙ e in
      let sides = and_parts (not (is_zero_tag t)) (is_with_a_host c p t || p.referenced t) (before.live t was) in
      let on : (is_with_a_host c q t || q.referenced t) ≡ true → lives c q t ≡ true = λ f. and_from (not (is_zero_tag t)) (is_with_a_host c q t || q.referenced t) sides.0 f in
      elim (cases_Bool (is_with_a_host c p t)) [
        | inr nobody ↦ inl (on (or_right (is_with_a_host c q t) (q.referenced t) (left.same_references t ∙ (rw nobody at sides.1))))
        | inl hosts ↦ elim (still_hosts t hosts) [
          | inl still ↦ inl (on (or_left (is_with_a_host c q t) (q.referenced t) still))
          | inr gone ↦ inr (was, gone)
        ]
      ]

-- the tags of marked extents are those of their owners
pub marked_has : (accepted ys : List Extent) (t : Tag) → list_any (λ y. same_tag (owner_of accepted y).tag t) ys ≡ true → has_tag (tags_of (map (marked accepted) ys)) t ≡ true
marked_has accepted ys t e = tags_of-has (map (marked accepted) ys) t (any-map (λ x. same_tag x.tag t) (marked accepted) ys ∙ e)

-- ---- the row of extents that are to leave

-- an extent that is to leave a region, beside those before it: the rule of a release, with the region of each as a function
abbrev pub going_rule : Configuration → HostId → List Extent → (Extent → ℕ) → List Extent → Extent → Option Rule
going_rule c h accepted region earlier x =
    misplaced c h (region x) (length earlier) x
    or not (is_in accepted x) breaks Rule.NotAccepted (length earlier)
    or overlapping earlier x
    or not_whole c h accepted (length earlier) x

record IsListed (c : Configuration) (p : Picture) (h : HostId) (x : Extent) : Type 0 where
  inside : is_in (p.accepted h) x ≡ true
  made : IsMade c (p.block (region_at c h x.start)) h (region_at c h x.start) x
  whole : (region_spec c (region_at c h x.start)).shareable ≡ true → is_whole (p.accepted h) x ≡ true

module _ (c : Configuration) (sound : IsSound c) (p : Picture) (s : Stands c p) (h : HostId) (host : h < c.hosts) (region : Extent → ℕ) where
  listed : (earlier : List Extent) (x : Extent) → going_rule (with_blocks c p.block) h (p.accepted h) region earlier x ≡ None → IsListed c p h x
  listed earlier x row =
      let w : Configuration = with_blocks c p.block in
      let acc : List Extent = p.accepted h in
      let i : ℕ = length earlier in
      let r : ℕ = region x in
      let p4 = neither _ (not_whole w h acc i x) row in
      let p3 = neither _ (overlapping earlier x) p4.0 in
      let p2 = neither (misplaced w h r i x) (not (is_in acc x) breaks Rule.NotAccepted i) p3.0 in
      let place : IsPlaced (with_blocks c p.block) h (region x) x = placed w h r i x p2.0 in
      let made = placed_made c p.block h (region x) x place in
      let at = made_region c h sound host (p.block (region x)) (region x) x (whole_blocks c sound p (loose c p s) (region x) made.known) made in
      let whole = not_broken (is_shareable_at w h x && not (is_whole acc x)) (Rule.NotWhole i) p4.1 in
      let share : is_shareable_at (with_blocks c p.block) h x ≡ (region_spec c (region_at c h x.start)).shareable =
      shareable_same c p.block (region_at w h x.start) ∙ ap (λ k. (region_spec c k).shareable) (region_at_same c p.block h x.start) in
      record {
        inside = not-false (is_in acc x) (not_broken (not (is_in acc x)) (Rule.NotAccepted i) p2.1);
        made = subst (λ k. IsMade c (p.block k) h k x) (sym at) made;
        whole = λ shared. elim (and_cases (is_shareable_at w h x) (not (is_whole acc x)) whole) [
          | inl private ↦ absurd (false≢true (sym private ∙ share ∙ shared))
          | inr is ↦ not-false (is_whole acc x) is
        ];
      }

  apart_before : (earlier : List Extent) (x : Extent) → going_rule (with_blocks c p.block) h (p.accepted h) region earlier x ≡ None → overlapping earlier x ≡ None
  apart_before earlier x row =
      let w : Configuration = with_blocks c p.block in
      (neither _ (overlapping earlier x) (neither _ (not_whole w h (p.accepted h) (length earlier) x) row).0).1

  -- the extents that break no rule may leave
  pub going_of : (ys : List Extent) → (each_in ys (going_rule (with_blocks c p.block) h (p.accepted h) region) or incomplete (with_blocks c p.block) h (p.accepted h) ys) ≡ None → IsGoing c p h ys
  going_of ys row =
      let w : Configuration = with_blocks c p.block in
      let first = (neither (each_in ys (going_rule w h (p.accepted h) region)) (incomplete w h (p.accepted h) ys) row).0 in
      let each : AllByRecursion (IsListed c p h) ys = row_each (going_rule w h (p.accepted h) region) (IsListed c p h) listed [] ys first in
      let spread : Spread [] ys = row_spread (going_rule w h (p.accepted h) region) apart_before [] ys first in
      record {
        made = each-change (IsListed c p h) (λ y. IsMade c (p.block (region_at c h y.start)) h (region_at c h y.start) y) (λ y l. l.made) ys each;
        inside = each-change (IsListed c p h) (λ y. is_in (p.accepted h) y ≡ true) (λ y l. l.inside) ys each;
        behind = behind_from [] ys spread;
        whole = each-change (IsListed c p h) (λ y. (region_spec c (region_at c h y.start)).shareable ≡ true → is_whole (p.accepted h) y ≡ true) (λ y l. l.whole) ys each;
      }
