-- Another block size of a region that is not in use keeps what every legal journal keeps: 5602h.
use Rattle.std.proofs.Common.{◌≡◌, ℕ, zero, suc, ◌+◌, ◌<◌, ◌≤◌, Bool, true, false, not, ◌==◌, List, [], ◌∷◌, ◌++◌, length, map, None, Some, refl, ap, sym, subst, ◌∙◌, inl, inr, arith, leb, ltb}
use Rattle.std.proofs.lemmas.{Bool.cases_Bool, Bool.cases_lt, Bool.eqb-true, Bool.false≢true, Bool.leb-false, Bool.ltb-false, Bool.not-false, Bool.or_left, List.Sums.length-filter}
use Rattle.std.specs.{List.AllByRecursion, List.range_with_len, Prelude.if◌then◌else◌}
use Rattle.cci_codec.specs.dcd_base.specs.{Words.flag_of, Words.has_granule, Words.has_in_runs, Words.has_tag, declared.capacity.Extent.Extent, declared.capacity.Tag.Tag, declared.ids.HostId.HostId}
use Rattle.cci_codec.specs.dcd_base.specs.declared.media.Run.{Run}
use Rattle.extent_list.specs.{dcd_codes.specs.Rules.◌breaks◌, dcd_codes.specs.Rules.each_in, dcd_codes.specs.declared.rules.Rule.Rule, media_map.specs.Places.run_of}
use Rattle.extent_list.specs.media_map.specs.region_config.specs.Configurations.{Configuration}
use Rattle.extent_list.specs.media_map.specs.region_config.specs.{Granules.first_granule, Granules.region_granules, Granules.hosts_of, Granules.is_supported, Granules.region_spec, Soundness.IsSound}
use Rattle.journal_core.specs.declared.outcome.Effect.{Effect}
use Rattle.device_rules.proofs.{BlockRuns.block_run, FreeGranules.free_none, FreeGranules.free_untagged, FreeGranules.has-many, Holding.in_run, Holding.present_whole}
use Rattle.device_rules.proofs.{ListSteps.each-both, ListSteps.each-change, ListSteps.many, OneOffer.stands_for, Overlaps.not_broken, Settling.outcome_keeps}
use Rattle.device_rules.specs.{Outcomes.effects_of, Outcomes.log_full, Pictures.Picture, Pictures.extents_at, Pictures.picture_after, Pictures.picture_of}
use Rattle.device_rules.specs.Settings.{in_use, no_such_region, set_outcome, set_rule}
use Rattle.device_rules.specs.{Standing.IsHome, Standing.IsMade, Standing.IsOpen, Standing.IsUnder, Standing.Sound, Standing.Stands, Tags.is_free, Tags.status, Tags.tag_runs, Views.View}
use Rattle.selection.proofs.Prescribed.{neither}

-- where no number of a range passes, none does
none_many : (p : ℕ → Bool) (a n k : ℕ) → many p (range_with_len a n) ≡ 0 → a ≤ k → k < a + n → p k ≡ false
none_many p a zero k none low high = absurd (omega (arith, low, high))
none_many p a (suc n) k none low high = elim (cases_Bool (p a)) [
  | inl here ↦ absurd (omega (arith, rw here at none))
  | inr fails ↦ elim (cases_lt a k) [
    | inl later ↦ none_many p (a + 1) n k (rw fails at none) (omega (arith, later)) (omega (arith, high))
    | inr first ↦ (let same : k ≡ a = omega (arith, low, first) in ap p same ∙ fails)
  ]
]

-- where no extent of a list has granules of a kind, each has none
each-without : (run : Extent → Run) (In : ℕ → Type 0) (xs : List Extent) → ((g : ℕ) → In g → many (λ x. has_granule (run x) g) xs ≡ 0) → AllByRecursion (λ x. (g : ℕ) → In g → has_granule (run x) g ≡ false) xs
each-without run In [] none = tt
each-without run In (x ∷ xs) none = ((λ g i. here g (none g i)), each-without run In xs (λ g i. later g (none g i)))
  where
    here : (g : ℕ) → many (λ y. has_granule (run y) g) (x ∷ xs) ≡ 0 → has_granule (run x) g ≡ false
    here g e = elim (cases_Bool (has_granule (run x) g)) [
      | inl has ↦ absurd (omega (arith, rw has at e))
      | inr has_none ↦ has_none
    ]

    later : (g : ℕ) → many (λ y. has_granule (run y) g) (x ∷ xs) ≡ 0 → many (λ y. has_granule (run y) g) xs ≡ 0
    later g e = elim (cases_Bool (has_granule (run x) g)) [
      | inl has ↦ absurd (omega (arith, rw has at e))
      | inr has_none ↦ rw has_none at e
    ]

module _ (c : Configuration) (sound : IsSound c) (past : List Effect) (before : Sound c (picture_of c past)) (r size : ℕ)
    (known : r < length c.regions) (supported : is_supported (region_spec c r) size ≡ true) (unused : in_use c past r ≡ 0) where
  abbrev p : Picture
  p = picture_of c past

  s : Stands c (picture_of c past)
  s = before.stands

  abbrev pub q : Picture
  q = picture_after c p (Effect.Block r size ∷ [])

  -- every granule of the region is free
  abbrev InRegion : ℕ → Type 0
  InRegion g = (first_granule c r ≤ g) × (g < first_granule c r + region_granules c r)

  all_free : (g : ℕ) → InRegion g → is_free (status c g past) ≡ true
  all_free g i =
      let used : ℕ → Bool = λ k. not (is_free (status c k past)) in
      let count : many used (range_with_len (first_granule c r) (region_granules c r)) ≡ 0 = length-filter used (range_with_len (first_granule c r) (region_granules c r)) ∙ unused in
      not-false (is_free (status c g past)) (none_many used (first_granule c r) (region_granules c r) g count i.0 i.1)

  -- so no extent is made of it
  first_has : (h : HostId) → h < c.hosts → (x : Extent) → IsMade c (p.block r) h r x → (g : ℕ) × InRegion g × (has_granule (run_of c h x) g ≡ true)
  first_has h host x m =
      let b = block_run c h sound host (p.block r) r x (present_whole c sound p s r known) m in
      let run : Run = run_of c h x in
      (run.first, (b.from, omega (arith, b.some, b.to)), in_run run run.first (omega arith) (omega (arith, b.some)))

  elsewhere : (h : HostId) (x : Extent) → h < c.hosts → ((g : ℕ) → InRegion g → has_granule (run_of c h x) g ≡ false) → IsHome c p h x → IsHome c q h x
  elsewhere h x host without a = elim (cases_Bool (r == a.region)) [
    | inl same ↦ (let is : r ≡ a.region = eqb-true r a.region same in
        let m : IsMade c (p.block r) h r x = subst (λ k. IsMade c (p.block k) h k x) (sym is) a.made in
        let f = first_has h host x m in
        absurd (false≢true (sym (without f.0 f.1) ∙ f.2)))
    | inr other ↦ (let block : q.block a.region ≡ p.block a.region = ap (λ b. if b then size else p.block a.region) other in
        record { region = a.region; made = subst (λ n. IsMade c n h a.region x) (sym block) a.made })
  ]

  homes : (h : HostId) → AllByRecursion (IsHome c q h) (extents_at p h)
  homes h = elim (cases_lt h c.hosts) [
    | inr past_all ↦ (let nothing : extents_at p h ≡ [] = rw (s.no_accepted h past_all, s.no_offers h past_all) refl in subst (AllByRecursion (IsHome c q h)) (sym nothing) tt)
    | inl host ↦ each-both (λ x. (g : ℕ) → InRegion g → has_granule (run_of c h x) g ≡ false) (IsHome c p h) (IsHome c q h) (λ x without a. elsewhere h x host without a) (extents_at p h)
        (each-without (run_of c h) InRegion (extents_at p h) (λ g i. free_none c sound past s g (all_free g i) h)) (s.home h)
  ]

  -- and no open tag stands for it
  open_elsewhere : (t : Tag) → has_tag p.tags t ≡ true → (a : IsOpen c p t) → (r == a.region) ≡ false
  open_elsewhere t e a = elim (cases_Bool (r == a.region)) [
    | inr other ↦ other
    | inl same ↦ (let is : r ≡ a.region = eqb-true r a.region same in
        first_of a.extents a.some (subst (λ k. AllByRecursion (IsMade c (p.block k) a.host k) a.extents) (sym is) a.each) a.offer)
  ]
    where
      first_of : (xs : List Extent) → 0 < length xs → AllByRecursion (IsMade c (p.block r) a.host r) xs → p.last t ≡ Some (a.host, xs) → (r == a.region) ≡ false
      first_of [] some each last = absurd (omega (arith, some))
      first_of (x ∷ xs) some each last =
          let f = first_has a.host a.known x each.0 in
          let stands : stands_for c p f.0 t ≡ true = ap (λ o. has_in_runs (tag_runs c o) f.0) last ∙ or_left (has_granule (run_of c a.host x) f.0) (has_in_runs (map (run_of c a.host) xs) f.0) f.2 in
          absurd (omega (arith, has-many (stands_for c p f.0) p.tags t e stands, free_untagged c sound past s f.0 (all_free f.0 f.1)))

  pub block_stands : Stands c q
  block_stands = record {
    no_accepted = s.no_accepted;
    no_offers = s.no_offers;
    held = s.held;
    once = s.once;
    one = s.one;
    apart = s.apart;
    few = s.few;
    home = homes;
    under = λ h. each-change (IsUnder c p h) (IsUnder c q h) (λ x u shared. let a = u shared in record { open_tag = a.open_tag; covered = a.covered }) (extents_at p h) (s.under h);
    together = s.together;
    opened = λ t e. let a = s.opened t e in
        let block : q.block a.region ≡ p.block a.region = ap (λ b. if b then size else p.block a.region) (open_elsewhere t e a) in record {
          host = a.host;
          extents = a.extents;
          region = a.region;
          offer = a.offer;
          known = a.known;
          shareable = a.shareable;
          each = subst (λ n. AllByRecursion (IsMade c n a.host a.region) a.extents) (sym block) a.each;
          some = a.some;
          apart = a.apart;
          nonzero = a.nonzero;
        };
    blocks = λ k within. elim (cases_Bool (r == k)) [
      | inl same ↦ (let is : r ≡ k = eqb-true r k same in
          ap (λ b. is_supported (region_spec c k) (if b then size else p.block k)) same ∙ subst (λ m. is_supported (region_spec c m) size ≡ true) is supported)
      | inr other ↦ ap (λ b. is_supported (region_spec c k) (if b then size else p.block k)) other ∙ s.blocks k within
    ];
  }

-- 5602h keeps it
pub set_keeps : (c : Configuration) → IsSound c → (past : List Effect) → Sound c (picture_of c past) → (view_for : HostId → View) (r : ℕ) (sanitize : Bool) (size : ℕ) → set_rule c past view_for r sanitize size ≡ None
    → Sound c (picture_of c (past ++ effects_of c past (set_outcome c view_for r size)))
set_keeps c sound past before view_for r sanitize size row =
    let p5 = neither _ (each_in (hosts_of c) (λ before h. log_full h (view_for h).log 1)) row in
    let p4 = neither _ (ltb 0 (in_use c past r) breaks Rule.RegionInUse (in_use c past r)) p5.0 in
    let p3 = neither _ (not (flag_of sanitize == flag_of (region_spec c r).sanitize) breaks Rule.SanitizeDiffers) p4.0 in
    let p2 = neither (no_such_region c r) (not (is_supported (region_spec c r) size) breaks Rule.NotSupportedSize size) p3.0 in
    let known = leb-false _ _ (not_broken (leb (length c.regions) r) (Rule.NoSuchRegion r) p2.0) in
    let supported = not-false (is_supported (region_spec c r) size) (not_broken (not (is_supported (region_spec c r) size)) (Rule.NotSupportedSize size) p2.1) in
    let none_used = ltb-false _ _ (not_broken (ltb 0 (in_use c past r)) (Rule.RegionInUse (in_use c past r)) p4.1) in
    outcome_keeps c past (set_outcome c view_for r size) (block_stands c sound past before r size known supported (omega (arith, none_used)))
    (λ t e. inl (before.live t e))
