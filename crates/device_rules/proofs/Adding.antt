-- A 5604h that breaks no rule keeps what every legal journal keeps.
use Rattle.std.proofs.Common.{◌≡◌, ◌⊎◌, ℕ, ◌+◌, ◌*◌, ◌/◌, ◌%◌, ◌<◌, ◌≤◌, true, false, not, ◌&&◌, ◌||◌, ◌==◌, List, [], ◌∷◌, ◌++◌, length, map, None, ap, sym, subst, ◌∙◌, inl, inr, arith, leb, ltb, eqb, div-add-mod', zero-mul}
use Rattle.std.{specs.Prelude.unwrap_or, specs.List.AllByRecursion, proofs.lemmas.List.length-map}
use Rattle.std.proofs.lemmas.Bool.{and_cases, and_parts, cases_Bool, cases_eq, eqb-false, eqb-true, false≢true, leb-false, ltb-false, not-false, or_parts}
use Rattle.cci_codec.specs.dcd_base.specs.{Limits.extents_supported, Words.has_granule, Words.has_in_runs, Words.has_tag, Words.is_zero_tag, Words.where_true, declared.capacity.Extent.Extent}
use Rattle.cci_codec.specs.dcd_base.specs.declared.{capacity.Tag.Tag, ids.HostId.HostId, media.Run.Run}
use Rattle.extent_list.specs.{ExtentLists.has_extent_of, ExtentLists.real_tags, Listing.too_many_extents, dcd_codes.specs.Rules.◌breaks◌, dcd_codes.specs.declared.rules.Rule.Rule}
use Rattle.extent_list.specs.media_map.specs.{Places.run_of, region_config.specs.Configurations.Configuration, region_config.specs.Granules.region_of, region_config.specs.Granules.region_spec}
use Rattle.extent_list.specs.media_map.specs.region_config.specs.Soundness.{IsSound}
use Rattle.journal_core.specs.{declared.entries.Entry.Entry, declared.outcome.Effect.Effect, Entries.effects}
use Rattle.selection.{specs.Selections.contiguous_runs, specs.Selections.free_runs, specs.Selections.prescribed_rule, specs.Selections.too_few_free, proofs.Prescribed.neither}
use Rattle.device_rules.specs.Adding.{add_outcome, add_rule, area_of, by_length_rule, extents_of, is_free_now, is_open_in, offered, per_block, present, with_tag, too_many_tags, region_free_blocks as blocks_free, region_longest_free as blocks_together}
use Rattle.device_rules.proofs.{BlockRuns.IsBlockRun, BlockRuns.block_run, FreeGranules.free_none, FreeGranules.free_untagged, FreeGranules.none_of_open, Holding.present_whole}
use Rattle.device_rules.proofs.{Homes.made_of_region, Homes.made_region, ListSteps.each-at, ListSteps.each-map, ListSteps.many}
use Rattle.device_rules.proofs.{OneOffer.IsFresh, OneOffer.IsOffer, OneOffer.IsShared, OneOffer.offer_lives, OneOffer.offer_stands, OneOffer.reaches, OneOffer.stands_for, Overlaps.not_broken}
use Rattle.device_rules.{proofs.Settling.outcome_keeps, specs.Outcomes.effects_of, specs.Outcomes.log_full}
use Rattle.device_rules.specs.{Pictures.Picture, Pictures.extents_at, Pictures.lives, Pictures.picture_after, Pictures.picture_of, Standing.IsMade, Standing.Sound, Standing.Stands}
use Rattle.device_rules.specs.Tags.{is_free, is_live, last_offer, open_tags, region_of_offer, status, tag_region, tag_runs}
use Rattle.device_rules.specs.Views.{View, extents_in, view_of}
use Rattle.device_rules.proofs.AddChoices.{IsChosen, contiguous_chosen, contiguous_reached, count_runs, free_chosen, free_reached, marked_chosen, marked_runs, marked_tags, prescribed_chosen, prescribed_reached, reach_runs, runs_back, runs_chosen}

-- the rules of the row that an offer keeps
pub record IsRow (c : Configuration) (past : List Effect) (p : Picture) (h : HostId) (policy r bytes : ℕ) (tag : Tag) (list : List Extent) : Type 0 where
  pub host : h < c.hosts
  pub policies : policy ≤ 3
  pub region : r < length c.regions
  pub to_share : ((policy == 3) && not (region_spec c r).shareable) ≡ false
  pub no_zero : (is_zero_tag tag && (region_spec c r).shareable) ≡ false
  pub not_live : (leb policy 2 && is_live c tag past) ≡ false
  pub is_open : ((policy == 3) && not (is_open_in c past r tag)) ≡ false
  pub not_shared : ((policy == 3) && has_extent_of tag (extents_at p h)) ≡ false
  pub by_length : where_true (leb policy 1) (by_length_rule (present c past) (is_free_now c past) r policy bytes) ≡ None
  pub by_list : where_true (policy == 2) (prescribed_rule (present c past) h (is_free_now c past) r list) ≡ None
  pub few : length (extents_at p h) + length (offered c past h policy r bytes tag list) ≤ extents_supported

pub row_of : (c : Configuration) (journal : List Entry) (h : HostId) (policy r bytes : ℕ) (tag : Tag) (list : List Extent) →
    add_rule c (effects journal) (λ k. view_of c k journal) h policy r bytes tag list ≡ None → IsRow c (effects journal) (picture_of c (effects journal)) h policy r bytes tag list
row_of c journal h policy r bytes tag list row =
    let past : List Effect = effects journal in
    let v : View = view_of c h journal in
    let p : Picture = picture_of c past in
    let new : List Extent = offered c past h policy r bytes tag list in
    let p13 = neither _ (log_full h v.log (length new)) row in
    let p12 = neither _ (too_many_tags (length (real_tags (extents_in v ++ new)))) p13.0 in
    let p11 = neither _ (too_many_extents (length (extents_in v) + length new)) p12.0 in
    let p10 = neither _ (where_true (policy == 2) (prescribed_rule (present c past) h (is_free_now c past) r list)) p11.0 in
    let p9 = neither _ (where_true (leb policy 1) (by_length_rule (present c past) (is_free_now c past) r policy bytes)) p10.0 in
    let p8 = neither _ (((policy == 3) && has_extent_of tag (extents_in v)) breaks Rule.AlreadyShared) p9.0 in
    let p7 = neither _ (((policy == 3) && not (is_open_in c past r tag)) breaks Rule.NoSuchTag) p8.0 in
    let p6 = neither _ ((leb policy 2 && is_live c tag past) breaks Rule.TagInUse) p7.0 in
    let p5 = neither _ ((is_zero_tag tag && (region_spec c r).shareable) breaks Rule.ZeroTag) p6.0 in
    let p4 = neither _ (((policy == 3) && not (region_spec c r).shareable) breaks Rule.NotShareable r) p5.0 in
    let p3 = neither _ (leb (length c.regions) r breaks Rule.NoSuchRegion r) p4.0 in
    let p2 = neither (leb c.hosts h breaks Rule.NoSuchHost h) (ltb 3 policy breaks Rule.NoSuchPolicy policy) p3.0 in
    record {
      host = leb-false _ _ (not_broken (leb c.hosts h) (Rule.NoSuchHost h) p2.0);
      policies = ltb-false _ _ (not_broken (ltb 3 policy) (Rule.NoSuchPolicy policy) p2.1);
      region = leb-false _ _ (not_broken (leb (length c.regions) r) (Rule.NoSuchRegion r) p3.1);
      to_share = not_broken _ (Rule.NotShareable r) p4.1;
      no_zero = not_broken _ Rule.ZeroTag p5.1;
      not_live = not_broken _ Rule.TagInUse p6.1;
      is_open = not_broken _ Rule.NoSuchTag p7.1;
      not_shared = not_broken _ Rule.AlreadyShared p8.1;
      by_length = p9.1;
      by_list = p10.1;
      few = ltb-false _ _ (not_broken (ltb extents_supported (length (extents_in v) + length new)) (Rule.TooManyExtents (length (extents_in v) + length new)) p11.1);
    }

-- what is offered, and of which granules
pub record IsAdded (c : Configuration) (p : Picture) (h : HostId) (r : ℕ) (t : Tag) (new : List Extent) : Type 0 where
  pub some : 0 < length new
  pub offer : IsOffer c p h r t new
  pub way : IsFresh c p h r t new ⊎ IsShared c p h r t new

module _ (c : Configuration) (sound : IsSound c) (past : List Effect) (before : Sound c (picture_of c past)) (h : HostId) (r : ℕ) (t : Tag) where
  abbrev p : Picture
  p = picture_of c past

  s : Stands c (picture_of c past)
  s = before.stands

  -- a live tag only is open
  closed : is_live c t past ≡ false → has_tag p.tags t ≡ false
  closed dead = elim (cases_Bool (has_tag p.tags t)) [
    | inr it ↦ it
    | inl open_tag ↦ absurd (false≢true (sym dead ∙ before.live t open_tag))
  ]

  nonzero : (is_zero_tag t && (region_spec c r).shareable) ≡ false → (region_spec c r).shareable ≡ true → is_zero_tag t ≡ false
  nonzero e shared = elim (and_cases (is_zero_tag t) (region_spec c r).shareable e) [
    | inl it ↦ it
    | inr private ↦ absurd (false≢true (sym private ∙ shared))
  ]

  -- extents of free granules, each with the tag
  fresh : h < c.hosts → is_live c t past ≡ false → (is_zero_tag t && (region_spec c r).shareable) ≡ false → (xs : List Extent) → IsChosen c (p.block r) h r xs
      → ((g : ℕ) → reaches c h xs g ≡ true → is_free (status c g past) ≡ true)
      → length (extents_at p h) + length (with_tag (region_spec c r).shareable t xs) ≤ extents_supported → IsAdded c p h r t (with_tag (region_spec c r).shareable t xs)
  fresh host dead zero_tags xs chosen free few =
      let new : List Extent = with_tag (region_spec c r).shareable t xs in
      let all = marked_chosen c (p.block r) h r (region_spec c r).shareable t xs chosen in
      let same : (g : ℕ) → reaches c h (with_tag (region_spec c r).shareable t xs) g ≡ reaches c h xs g = λ g.
      sym (reach_runs c h g (with_tag (region_spec c r).shareable t xs)) ∙ ap (λ runs. has_in_runs runs g) (marked_runs (region_spec c r).shareable t c h 1 xs) ∙ reach_runs c h g xs in
      record {
        some = all.some;
        offer = record {
          host = host;
          made = all.made;
          marked = marked_tags (region_spec c r).shareable t 1 xs;
          apart = all.apart;
          few = few;
          own = λ g has. free_none c sound past s g (free g (sym (same g) ∙ has)) h;
          all = λ private g has k. free_none c sound past s g (free g (sym (same g) ∙ has)) k;
        };
        way = inl (record {
          closed = closed dead;
          nonzero = nonzero zero_tags;
          untagged = λ shared g has. free_untagged c sound past s g (free g (sym (same g) ∙ has));
        });
      }

  -- the granules of an open tag
  shared : h < c.hosts → r < length c.regions → (region_spec c r).shareable ≡ true → is_open_in c past r t ≡ true → has_extent_of t (extents_at p h) ≡ false
      → length (extents_at p h) + length (with_tag (region_spec c r).shareable t (extents_of (present c past) h (tag_runs c (last_offer t past)))) ≤ extents_supported
      → IsAdded c p h r t (with_tag (region_spec c r).shareable t (extents_of (present c past) h (tag_runs c (last_offer t past))))
  shared host known shareable open_in no_extent few =
      let parts = and_parts (has_tag (open_tags c past) t) (eqb (unwrap_or (tag_region c (last_offer t past)) 0) r) open_in in
      let a = s.opened t parts.0 in
      let runs : List Run = tag_runs c (last_offer t past) in
      let runs_are : tag_runs c (last_offer t past) ≡ map (run_of c a.host) a.extents = ap (tag_runs c) a.offer in
      let told : unwrap_or (tag_region c (last_offer t past)) 0 ≡ region_of_offer c a.host a.extents = ap (λ o. unwrap_or (tag_region c o) 0) a.offer in
      let region : a.region ≡ r = sym (its_region a.host a.extents a.region a.known a.some a.each) ∙ sym told ∙ eqb-true _ _ parts.1 in
      let blocks : AllByRecursion (IsBlockRun c (p.block r) r) runs = subst (AllByRecursion (IsBlockRun c (p.block r) r)) (sym runs_are)
      (subst (λ k. AllByRecursion (IsBlockRun c (p.block k) k) (map (run_of c a.host) a.extents)) region (its_blocks a.host a.extents a.region a.known a.each)) in
      let once : (g : ℕ) → many (λ run. has_granule run g) runs ≤ 1 = λ g. omega (arith, a.apart g, ap (many (λ run. has_granule run g)) runs_are, count_runs c a.host g a.extents) in
      let some : 0 < length runs = omega (arith, a.some, ap length runs_are, length-map a.extents (run_of c a.host)) in
      let xs : List Extent = extents_of (present c past) h runs in
      let new : List Extent = with_tag (region_spec c r).shareable t xs in
      let chosen = runs_chosen c sound p.block h host r known s.blocks runs blocks once some in
      let all = marked_chosen c (p.block r) h r (region_spec c r).shareable t xs chosen in
      let back : map (run_of c h) new ≡ runs = marked_runs (region_spec c r).shareable t c h 1 xs ∙ runs_back c sound p.block h host r known s.blocks runs blocks in
      let stands : (g : ℕ) → reaches c h new g ≡ true → stands_for c p g t ≡ true = λ g has. ap (λ rs. has_in_runs rs g) (sym back) ∙ reach_runs c h g new ∙ has in
      let of_region : (g : ℕ) → reaches c h new g ≡ true → region_of c g ≡ r = λ g has.
      (let found = each-at (IsMade c (p.block r) h r) (λ x. has_granule (run_of c h x) g) new all.made has in
      made_of_region c h sound host (p.block r) r found.0 (present_whole c sound p s r known) found.2 g found.1) in
      record {
        some = all.some;
        offer = record {
          host = host;
          made = all.made;
          marked = marked_tags (region_spec c r).shareable t 1 xs;
          apart = all.apart;
          few = few;
          own = λ g has. none_of_open c sound p s h t g host (ap (λ k. (region_spec c k).shareable) (of_region g has) ∙ shareable) parts.0 (stands g has) no_extent;
          all = λ private g has k. absurd (false≢true (sym private ∙ shareable));
        };
        way = inr (record { opened = parts.0; same_runs = sym back; shareable = shareable });
      }
    where
      its_region : (k : HostId) (ys : List Extent) (m : ℕ) → k < c.hosts → 0 < length ys → AllByRecursion (IsMade c (p.block m) k m) ys → region_of_offer c k ys ≡ m
      its_region k [] m host some each = absurd (omega (arith, some))
      its_region k (y ∷ ys) m host some each = made_region c k sound host (p.block m) m y (present_whole c sound p s m each.0.known) each.0

      its_blocks : (k : HostId) (ys : List Extent) (m : ℕ) → k < c.hosts → AllByRecursion (IsMade c (p.block m) k m) ys → AllByRecursion (IsBlockRun c (p.block m) m) (map (run_of c k) ys)
      its_blocks k ys m host each = each-map (IsMade c (p.block m) k m) (IsBlockRun c (p.block m) m) (run_of c k) (λ y a. block_run c k sound host (p.block m) m y (present_whole c sound p s m a.known) a) ys each

  -- ---- by policy

  module _ (bytes : ℕ) (list : List Extent) where
    abbrev size : ℕ
    size = (region_spec (present c past) r).block

    -- some blocks are needed, and so many there are
    need_some : ((bytes == 0) || not (bytes % (region_spec (present c past) r).block == 0)) ≡ false → 0 < bytes / (region_spec (present c past) r).block
    need_some e =
        let parts = or_parts (bytes == 0) (not (bytes % size == 0)) e in
        let some = eqb-false bytes 0 parts.0 in
        let whole = eqb-true (bytes % size) 0 (not-false _ parts.1) in
        elim (cases_eq (bytes / size) 0) [
          | inl nothing ↦ absurd (omega (arith, div-add-mod' bytes size, ap (λ n. n * size) nothing, zero-mul size, whole, some))
          | inr it ↦ omega (arith, it)
        ]

    added_free : IsRow c past p h 0 r bytes t list → IsAdded c p h r t (offered c past h 0 r bytes t list)
    added_free row =
        let parts = neither (((bytes == 0) || not (bytes % size == 0)) breaks Rule.BadLength bytes) (too_few_free (bytes / size) (blocks_free (present c past) (is_free_now c past) r)) row.by_length in
        let some = need_some (not_broken _ (Rule.BadLength bytes) parts.0) in
        let enough = ltb-false _ _ (not_broken (ltb (blocks_free (present c past) (is_free_now c past) r) (bytes / size)) (Rule.TooFewFree (bytes / size) (blocks_free (present c past) (is_free_now c past) r)) parts.1) in
        fresh row.host row.not_live row.no_zero (extents_of (present c past) h (free_runs (is_free_now c past) (area_of (present c past) r) (per_block (present c past) r) (bytes / size)))
        (free_chosen c sound p.block h row.host r row.region s.blocks (is_free_now c past) (bytes / size) some enough)
        (free_reached c sound p.block h row.host r row.region s.blocks (is_free_now c past) (bytes / size)) row.few

    added_contiguous : IsRow c past p h 1 r bytes t list → IsAdded c p h r t (offered c past h 1 r bytes t list)
    added_contiguous row =
        let parts = neither (((bytes == 0) || not (bytes % size == 0)) breaks Rule.BadLength bytes) (too_few_free (bytes / size) (blocks_together (present c past) (is_free_now c past) r)) row.by_length in
        let some = need_some (not_broken _ (Rule.BadLength bytes) parts.0) in
        let enough = ltb-false _ _ (not_broken (ltb (blocks_together (present c past) (is_free_now c past) r) (bytes / size)) (Rule.TooFewFree (bytes / size) (blocks_together (present c past) (is_free_now c past) r)) parts.1) in
        fresh row.host row.not_live row.no_zero (extents_of (present c past) h (contiguous_runs (is_free_now c past) (area_of (present c past) r) (per_block (present c past) r) (bytes / size)))
        (contiguous_chosen c sound p.block h row.host r row.region s.blocks (is_free_now c past) (bytes / size) some enough)
        (λ g has. contiguous_reached c sound p.block h row.host r row.region s.blocks (is_free_now c past) (bytes / size) g some has) row.few

    added_prescribed : IsRow c past p h 2 r bytes t list → IsAdded c p h r t (offered c past h 2 r bytes t list)
    added_prescribed row =
        fresh row.host row.not_live row.no_zero list
        (prescribed_chosen c sound p.block h row.host r row.region s.blocks (is_free_now c past) list row.by_list)
        (prescribed_reached c sound p.block h row.host r row.region s.blocks (is_free_now c past) list row.by_list) row.few

    added_shared : IsRow c past p h 3 r bytes t list → IsAdded c p h r t (offered c past h 3 r bytes t list)
    added_shared row =
        shared row.host row.region (not-false _ row.to_share) (not-false _ row.is_open) row.not_shared row.few

    pub added : (policy : ℕ) → IsRow c past p h policy r bytes t list → IsAdded c p h r t (offered c past h policy r bytes t list)
    added policy row = elim (cases_eq policy 0) [
      | inl is ↦ subst (λ n. IsRow c past p h n r bytes t list → IsAdded c p h r t (offered c past h n r bytes t list)) (sym is) added_free row
      | inr not_free ↦ elim (cases_eq policy 1) [
        | inl is ↦ subst (λ n. IsRow c past p h n r bytes t list → IsAdded c p h r t (offered c past h n r bytes t list)) (sym is) added_contiguous row
        | inr not_contiguous ↦ elim (cases_eq policy 2) [
          | inl is ↦ subst (λ n. IsRow c past p h n r bytes t list → IsAdded c p h r t (offered c past h n r bytes t list)) (sym is) added_prescribed row
          | inr not_prescribed ↦ (let is : policy ≡ 3 = omega (arith, row.policies, not_free, not_contiguous, not_prescribed) in
              subst (λ n. IsRow c past p h n r bytes t list → IsAdded c p h r t (offered c past h n r bytes t list)) (sym is) added_shared row)
        ]
      ]
    ]

-- 5604h keeps it
pub add_keeps : (c : Configuration) → IsSound c → (journal : List Entry) → Sound c (picture_of c (effects journal)) → (h : HostId) (policy r bytes : ℕ) (tag : Tag) (list : List Extent)
    → add_rule c (effects journal) (λ k. view_of c k journal) h policy r bytes tag list ≡ None
    → Sound c (picture_of c (effects journal ++ effects_of c (effects journal) (add_outcome c (effects journal) (λ k. view_of c k journal) h policy r bytes tag list)))
add_keeps c sound journal before h policy r bytes tag list row =
    let past : List Effect = effects journal in
    let a = added c sound past before h r tag bytes list policy (row_of c journal h policy r bytes tag list row) in
    let new : List Extent = offered c past h policy r bytes tag list in
    outcome_keeps c past (add_outcome c past (λ k. view_of c k journal) h policy r bytes tag list)
    (stands_then (offered c past h policy r bytes tag list) a)
    (λ t e. inl (lives_then (offered c past h policy r bytes tag list) a t e))
  where
    stands_then : (new : List Extent) → IsAdded c (picture_of c (effects journal)) h r tag new → Stands c (picture_after c (picture_of c (effects journal)) (Effect.Offer h new ∷ []))
    stands_then [] a = absurd (omega (arith, a.some))
    stands_then (x ∷ xs) a = offer_stands c sound (picture_of c (effects journal)) before h r tag x xs a.offer a.way

    lives_then : (new : List Extent) → IsAdded c (picture_of c (effects journal)) h r tag new → (t : Tag) → has_tag (picture_after c (picture_of c (effects journal)) (Effect.Offer h new ∷ [])).tags t ≡ true
        → lives c (picture_after c (picture_of c (effects journal)) (Effect.Offer h new ∷ [])) t ≡ true
    lives_then [] a t e = absurd (omega (arith, a.some))
    lives_then (x ∷ xs) a t e = offer_lives c sound (picture_of c (effects journal)) before h r tag x xs a.offer a.way t e
