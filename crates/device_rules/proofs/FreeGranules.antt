-- No extent and no open tag has a free granule; and a host without extents of an open tag has none of its granules.
use Rattle.std.proofs.Common.{◌≡◌, ℕ, zero, suc, ◌+◌, ◌<◌, ◌≤◌, Bool, true, false, not, ◌&&◌, ◌||◌, List, [], ◌∷◌, map, refl, ap, sym, ◌∙◌, inl, inr, arith}
use Rattle.std.proofs.lemmas.{Bool.cases_Bool, Bool.cases_lt, Bool.false≢true, Bool.or_from, Bool.or_parts, List.Folds.list_any-append, List.Sums.length-filter}
use Rattle.std.specs.{List.AllByRecursion, List.list_any, List.range_with_len, Prelude.flat_map, Prelude.if◌then◌else◌}
use Rattle.cci_codec.specs.dcd_base.specs.{declared.capacity.Extent.Extent, declared.capacity.Tag.Tag, declared.ids.HostId.HostId, Words.has_granule, Words.has_in_runs, Words.has_tag, Words.same_tag}
use Rattle.extent_list.specs.{ExtentLists.has_extent_of, media_map.specs.Places.region_at, media_map.specs.Places.run_of, media_map.specs.region_config.specs.Configurations.Configuration}
use Rattle.extent_list.specs.media_map.specs.region_config.specs.{Granules.region_of, Granules.region_spec, Soundness.IsSound}
use Rattle.journal_core.specs.{declared.outcome.Effect.Effect, Holders.holds, Holders.is_soiled, Holders.is_taken}
use Rattle.device_rules.proofs.{Holding.home_made, Holding.present_whole, Homes.made_of_region, ListSteps.any-map, ListSteps.each-at, ListSteps.each-both, ListSteps.many, ListSteps.many-none}
use Rattle.device_rules.{proofs.OneOffer.stands_for, proofs.Settling.each-tagged, proofs.TagSteps.same_tag-is, proofs.TagSteps.same_tag-self, specs.Hosts.offers_of}
use Rattle.device_rules.specs.{Pictures.Picture, Pictures.count_on, Pictures.extents_at, Pictures.picture_of, Standing.IsHome, Standing.IsUnder, Standing.IsUnderTag, Standing.Stands}
use Rattle.device_rules.specs.Tags.{Dirty, Free, Held, Offered, Tagged, is_free, is_held, is_offered, is_tagged, status}

-- which tests a free granule fails
free_cond : (held offered tagged dirty : Bool) → is_free (if held then Held else if offered then Offered else if tagged then Tagged else if dirty then Dirty else Free) ≡ true → (held ≡ false) × (offered ≡ false) × (tagged ≡ false)
free_cond true offered tagged dirty e = absurd (false≢true e)
free_cond false true tagged dirty e = absurd (false≢true e)
free_cond false false true dirty e = absurd (false≢true e)
free_cond false false false dirty e = (refl, refl, refl)

none_in_range : (p : ℕ → Bool) (a n k : ℕ) → list_any p (range_with_len a n) ≡ false → a ≤ k → k < a + n → p k ≡ false
none_in_range p a zero k none low high = absurd (omega (arith, low, high))
none_in_range p a (suc n) k none low high =
    let parts = or_parts (p a) (list_any p (range_with_len (a + 1) n)) none in
    elim (cases_lt a k) [
      | inl later ↦ none_in_range p (a + 1) n k parts.1 (omega (arith, later)) (omega (arith, high))
      | inr first ↦ (let same : k ≡ a = omega (arith, low, first) in ap p same ∙ parts.0)
    ]

none_in_offers : (run : Extent → Bool) (offers : List (List Extent)) → list_any (λ xs. list_any run xs) offers ≡ false → list_any run (flat_map (λ xs. xs) offers) ≡ false
none_in_offers run [] none = refl
none_in_offers run (xs ∷ offers) none =
    let parts = or_parts (list_any run xs) (list_any (λ ys. list_any run ys) offers) none in
    list_any-append run xs (flat_map (λ ys. ys) offers) ∙ or_from (list_any run xs) (list_any run (flat_map (λ ys. ys) offers)) parts.0 (none_in_offers run offers parts.1)

in_runs_offers : (c : Configuration) (h : HostId) (g : ℕ) (offers : List (List Extent)) → list_any (λ xs. has_in_runs (map (run_of c h) xs) g) offers ≡ list_any (λ xs. list_any (λ x. has_granule (run_of c h x) g) xs) offers
in_runs_offers c h g [] = refl
in_runs_offers c h g (xs ∷ offers) = λ i. any-map (λ run. has_granule run g) (run_of c h) xs i || in_runs_offers c h g offers i

-- an extent's own tag is among those of the list
each-own : (xs : List Extent) → AllByRecursion (λ x. has_extent_of x.tag xs ≡ true) xs
each-own xs = each-tagged (λ _. Unit {0}) (λ x. has_extent_of x.tag xs ≡ true) xs (λ x has _. has) (all_units xs)
  where
    all_units : (ys : List Extent) → AllByRecursion (λ _. Unit {0}) ys
    all_units [] = tt
    all_units (y ∷ ys) = (tt, all_units ys)

-- two tags that pass are counted both
pub has-many : (test : Tag → Bool) (tags : List Tag) (u : Tag) → has_tag tags u ≡ true → test u ≡ true → 0 < many test tags
has-many test [] u e passes = absurd (false≢true e)
has-many test (v ∷ tags) u e passes = elim (cases_Bool (same_tag u v)) [
  | inl same ↦ (let here : test v ≡ true = ap test (sym (same_tag-is u v same)) ∙ passes in rw here (omega arith))
  | inr other ↦ (let rest = has-many test tags u (rw other at e) passes in elim (cases_Bool (test v)) [
    | inl here ↦ rw here (omega (arith, rest))
    | inr fails ↦ rw fails rest
  ])
]

pub two-many : (test : Tag → Bool) (tags : List Tag) (t u : Tag) → same_tag t u ≡ false → has_tag tags t ≡ true → has_tag tags u ≡ true → test t ≡ true → test u ≡ true → 1 < many test tags
two-many test [] t u apart e f a b = absurd (false≢true e)
two-many test (v ∷ tags) t u apart e f a b = elim (cases_Bool (same_tag t v)) [
  | inl first ↦ (let is = same_tag-is t v first in
      let here : test v ≡ true = ap test (sym is) ∙ a in
      let other : same_tag u v ≡ false = ap (same_tag u) (sym is) ∙ back t u apart in
      rw here (omega (arith, has-many test tags u (rw other at f) b)))
  | inr not_first ↦ elim (cases_Bool (same_tag u v)) [
    | inl second ↦ (let here : test v ≡ true = ap test (sym (same_tag-is u v second)) ∙ b in rw here (omega (arith, has-many test tags t (rw not_first at e) a)))
    | inr neither_ ↦ (let rest = two-many test tags t u apart (rw not_first at e) (rw neither_ at f) a b in elim (cases_Bool (test v)) [
      | inl here ↦ rw here (omega (arith, rest))
      | inr fails ↦ rw fails rest
    ])
  ]
]
  where
    back : (x y : Tag) → same_tag x y ≡ false → same_tag y x ≡ false
    back x y e = elim (cases_Bool (same_tag y x)) [
      | inr it ↦ it
      | inl same ↦ absurd (false≢true (sym e ∙ ap (same_tag x) (same_tag-is y x same) ∙ same_tag-self x))
    ]

module _ (c : Configuration) (sound : IsSound c) (p : Picture) (s : Stands c p) where
  abbrev IsFull : HostId → Extent → Type 0
  IsFull k y = IsHome c p k y × IsUnder c p k y × (has_extent_of y.tag (extents_at p k) ≡ true)

  full : (k : HostId) → AllByRecursion (IsFull k) (extents_at p k)
  full k = each-both (IsHome c p k) (λ y. IsUnder c p k y × (has_extent_of y.tag (extents_at p k) ≡ true)) (IsFull k) (λ y a b. (a, b.0, b.1)) (extents_at p k) (s.home k)
      (each-both (IsUnder c p k) (λ y. has_extent_of y.tag (extents_at p k) ≡ true) (λ y. IsUnder c p k y × (has_extent_of y.tag (extents_at p k) ≡ true)) (λ y a b. (a, b)) (extents_at p k) (s.under k) (each-own (extents_at p k)))

  -- where a host of the device has a granule of a shareable region, an open tag of one of its extents stands for it
  pub shared_claim : (k : HostId) (g : ℕ) → k < c.hosts → (region_spec c (region_of c g)).shareable ≡ true → list_any (λ y. has_granule (run_of c k y) g) (extents_at p k) ≡ true →
      (u : Tag) × (has_tag p.tags u ≡ true) × (stands_for c p g u ≡ true) × (has_extent_of u (extents_at p k) ≡ true)
  shared_claim k g host shared has =
      let found = each-at (IsFull k) (λ y. has_granule (run_of c k y) g) (extents_at p k) (full k) has in
      let y : Extent = found.0 in
      let made = home_made c sound p s k y host found.2.0 in
      let r : ℕ = region_at c k y.start in
      let at : region_of c g ≡ r = made_of_region c k sound host (p.block r) r y (present_whole c sound p s r made.known) made g found.1 in
      let u : IsUnderTag c p k y = found.2.1 (ap (λ m. (region_spec c m).shareable) (sym at) ∙ shared) in
      (y.tag, u.open_tag, u.covered g found.1, found.2.2)

  -- so a host without extents of an open tag has none of the tag's granules
  pub none_of_open : (k : HostId) (t : Tag) (g : ℕ) → k < c.hosts → (region_spec c (region_of c g)).shareable ≡ true → has_tag p.tags t ≡ true → stands_for c p g t ≡ true →
      has_extent_of t (extents_at p k) ≡ false → count_on c k g (extents_at p k) ≡ 0
  none_of_open k t g host shared open_tag stands no_extent = elim (cases_Bool (list_any (λ y. has_granule (run_of c k y) g) (extents_at p k))) [
    | inr nothing ↦ many-none (λ y. has_granule (run_of c k y) g) (extents_at p k) nothing
    | inl has ↦ (let claim = shared_claim k g host shared has in
        let u : Tag = claim.0 in
        elim (cases_Bool (same_tag t u)) [
          | inl same ↦ absurd (false≢true (sym no_extent ∙ ap (λ v. has_extent_of v (extents_at p k)) (same_tag-is t u same) ∙ claim.3))
          | inr other ↦ absurd (omega (arith, two-many (stands_for c p g) p.tags t u other open_tag claim.1 stands claim.2, s.apart g, length-filter (stands_for c p g) p.tags))
        ])
  ]

module _ (c : Configuration) (sound : IsSound c) (past : List Effect) (s : Stands c (picture_of c past)) (g : ℕ) (free : is_free (status c g past) ≡ true) where
  abbrev p : Picture
  p = picture_of c past

  parts : ((not (region_spec c (region_of c g)).shareable && is_held c g past) ≡ false) × ((not (region_spec c (region_of c g)).shareable && is_offered c g past) ≡ false) × (is_tagged c g past ≡ false)
  parts = free_cond (not (region_spec c (region_of c g)).shareable && is_held c g past) (not (region_spec c (region_of c g)).shareable && is_offered c g past) (is_tagged c g past)
      (((region_spec c (region_of c g)).sanitize && is_taken g past) || is_soiled g past) free

  -- no open tag stands for it
  pub free_untagged : many (stands_for c p g) p.tags ≡ 0
  free_untagged = many-none (stands_for c p g) p.tags parts.2

  private_none : (k : HostId) → k < c.hosts → (region_spec c (region_of c g)).shareable ≡ false → list_any (λ y. has_granule (run_of c k y) g) (extents_at p k) ≡ false
  private_none k host private =
      let held : is_held c g past ≡ false = (rw private at parts.0) in
      let offered : is_offered c g past ≡ false = (rw private at parts.1) in
      let not_held : holds k g past ≡ false = none_in_range (λ h. holds h g past) 0 c.hosts k held (omega arith) (omega (arith, host)) in
      let not_offered = none_in_range (λ h. list_any (λ xs. has_in_runs (map (run_of c h) xs) g) (offers_of h past)) 0 c.hosts k offered (omega arith) (omega (arith, host)) in
      let test : Extent → Bool = λ y. has_granule (run_of c k y) g in
      list_any-append test (p.accepted k) (flat_map (λ xs. xs) (p.offers k))
      ∙ or_from (list_any test (p.accepted k)) (list_any test (flat_map (λ xs. xs) (p.offers k)))
      (sym (s.held k g ∙ any-map (λ run. has_granule run g) (run_of c k) (p.accepted k)) ∙ not_held)
      (none_in_offers test (p.offers k) (sym (in_runs_offers c k g (p.offers k)) ∙ not_offered))

  -- and no extent has it
  pub free_none : (k : HostId) → count_on c k g (extents_at p k) ≡ 0
  free_none k = elim (cases_lt k c.hosts) [
    | inr beyond ↦ (let nothing : extents_at p k ≡ [] = rw (s.no_accepted k beyond, s.no_offers k beyond) refl in ap (count_on c k g) nothing)
    | inl host ↦ elim (cases_Bool (region_spec c (region_of c g)).shareable) [
      | inr private ↦ many-none (λ y. has_granule (run_of c k y) g) (extents_at p k) (private_none k host private)
      | inl is ↦ elim (cases_Bool (list_any (λ y. has_granule (run_of c k y) g) (extents_at p k))) [
        | inr nothing ↦ many-none (λ y. has_granule (run_of c k y) g) (extents_at p k) nothing
        | inl has ↦ (let claim = shared_claim c sound p s k g host is has in absurd (omega (arith, free_untagged, has-many (stands_for c p g) p.tags claim.0 claim.1 claim.2)))
      ]
    ]
  ]
