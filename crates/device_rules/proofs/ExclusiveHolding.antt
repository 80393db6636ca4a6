-- The invariant keeps holders apart, so that holding is exclusive at every moment of a legal journal.
use Rattle.std.proofs.Common.{◌≡◌, ℕ, ◌<◌, Bool, true, false, ◌&&◌, ◌||◌, List, [], ◌∷◌, refl, ap, sym, subst, ◌∙◌, inl, inr, arith}
use Rattle.std.proofs.lemmas.{Bool.and_from, Bool.cases_Bool, Bool.cases_lt, Bool.false≢true, Bool.or_left, Bool.or_right, List.Sums.length-filter}
use Rattle.std.specs.{List.AllByRecursion, List.filter, List.list_any, Prelude.flat_map}
use Rattle.cci_codec.specs.dcd_base.specs.{declared.capacity.Extent.Extent, declared.capacity.Tag.Tag, declared.ids.HostId.HostId, Words.has_granule, Words.has_tag, Words.same_tag, Words.zero_tag}
use Rattle.extent_list.specs.media_map.specs.{Places.region_at, Places.run_of, region_config.specs.Configurations.Configuration}
use Rattle.extent_list.specs.media_map.specs.region_config.specs.{Granules.region_of, Granules.region_spec, Soundness.IsSound}
use Rattle.journal_core.{specs.declared.entries.Entry.Entry, specs.declared.outcome.Effect.Effect, specs.Entries.effects, specs.Holders.holds, proofs.EachSteps.Each-front}
use Rattle.device_rules.proofs.{FreeGranules.two-many, Holding.home_made, Holding.present_whole, Holding.sound_gives_holdings, Homes.made_of_region, LegalSound.legal_is_sound}
use Rattle.device_rules.proofs.{ListSteps.any-map, ListSteps.each-both, ListSteps.each-change, ListSteps.each-front, ListSteps.many-any, ListSteps.many-append, OneAnswer.any-of-each}
use Rattle.device_rules.{proofs.OneOffer.reaches, proofs.OneOffer.stands_for, proofs.TagSteps.same_tag-is, proofs.TagSteps.same_tag-self, specs.Invariants.Holdings}
use Rattle.device_rules.specs.{Legal.Apart, Legal.Exclusive, Legal.HasUnder, Legal.Legal, Legal.Meets, Pictures.Picture, Pictures.count_on, Pictures.extents_at, Pictures.picture_of}
use Rattle.device_rules.specs.Standing.{IsHome, IsUnder, Sound, Stands}

-- of the tags one that passes, if any does
some_tag : (test : Tag → Bool) (tags : List Tag) → list_any test tags ≡ true → (t : Tag) × (has_tag tags t ≡ true) × (test t ≡ true)
some_tag test [] e = absurd (false≢true e)
some_tag test (t ∷ tags) e = elim (cases_Bool (test t)) [
  | inl here ↦ (t, or_left (same_tag t t) (has_tag tags t) (same_tag-self t), here)
  | inr other ↦ (let rest = some_tag test tags (rw other at e) in (rest.0, or_right (same_tag rest.0 t) (has_tag tags rest.0) rest.1, rest.2))
]

any_tag : (test : Tag → Bool) (tags : List Tag) (t : Tag) → has_tag tags t ≡ true → test t ≡ true → list_any test tags ≡ true
any_tag test [] t e passes = absurd (false≢true e)
any_tag test (u ∷ tags) t e passes = elim (cases_Bool (same_tag t u)) [
  | inl same ↦ or_left (test u) (list_any test tags) (ap test (sym (same_tag-is t u same)) ∙ passes)
  | inr other ↦ or_right (test u) (list_any test tags) (any_tag test tags t (rw other at e) passes)
]

-- what passes both tests is among those that pass one
any-filter : (p q : Extent → Bool) (xs : List Extent) → list_any (λ x. p x && q x) xs ≡ true → list_any p (filter q xs) ≡ true
any-filter p q [] e = absurd (false≢true e)
any-filter p q (x ∷ xs) e = elim (cases_Bool (q x)) [
  | inl kept ↦ rw kept (elim (cases_Bool (p x)) [
    | inl passes ↦ or_left (p x) (list_any p (filter q xs)) passes
    | inr fails ↦ or_right (p x) (list_any p (filter q xs)) (any-filter p q xs (rw fails at e))
  ])
  | inr left ↦ rw left (any-filter p q xs (drop_first (p x) (rw left at e)))
]
  where
    drop_first : (b : Bool) → ((b && false) || list_any (λ y. p y && q y) xs) ≡ true → list_any (λ y. p y && q y) xs ≡ true
    drop_first true f = f
    drop_first false f = f

module _ (c : Configuration) (sound : IsSound c) (past : List Effect) (now : Sound c (picture_of c past)) where
  abbrev p : Picture
  p = picture_of c past

  s : Stands c (picture_of c past)
  s = now.stands

  -- whoever holds a granule has an accepted extent with it
  reached : (h : HostId) (g : ℕ) → holds h g past ≡ true → reaches c h (p.accepted h) g ≡ true
  reached h g e = sym (s.held h g ∙ any-map (λ run. has_granule run g) (run_of c h) (p.accepted h)) ∙ e

  claims : (h : HostId) (g : ℕ) → holds h g past ≡ true → 0 < count_on c h g (extents_at p h)
  claims h g e =
      let test : Extent → Bool = λ x. has_granule (run_of c h x) g in
      omega (arith, many-append test (p.accepted h) (flat_map (λ xs. xs) (p.offers h)), many-any test (p.accepted h) (reached h g e))

  is_host : (h : HostId) (g : ℕ) → holds h g past ≡ true → h < c.hosts
  is_host h g e = elim (cases_lt h c.hosts) [
    | inl host ↦ host
    | inr beyond ↦ absurd (false≢true (ap (λ xs. reaches c h xs g) (sym (s.no_accepted h beyond)) ∙ reached h g e))
  ]

  -- each accepted extent with the granule is under the tag that stands for it
  each_claims : (h : HostId) (g : ℕ) → h < c.hosts → (region_spec c (region_of c g)).shareable ≡ true
      → AllByRecursion (λ x. has_granule (run_of c h x) g ≡ true → (has_tag p.tags x.tag ≡ true) × (stands_for c p g x.tag ≡ true)) (p.accepted h)
  each_claims h g host shared = each-both (IsHome c p h) (IsUnder c p h) (λ x. has_granule (run_of c h x) g ≡ true → (has_tag p.tags x.tag ≡ true) × (stands_for c p g x.tag ≡ true))
      (λ x a u has. let m = home_made c sound p s h x host a in
      let r : ℕ = region_at c h x.start in
      let at : region_of c g ≡ r = made_of_region c h sound host (p.block r) r x (present_whole c sound p s r m.known) m g has in
      let e = u (ap (λ k. (region_spec c k).shareable) (sym at) ∙ shared) in
      (e.open_tag, e.covered g has))
      (p.accepted h) (each-front (IsHome c p h) (p.accepted h) (flat_map (λ xs. xs) (p.offers h)) (s.home h))
      (each-front (IsUnder c p h) (p.accepted h) (flat_map (λ xs. xs) (p.offers h)) (s.under h))

  -- so all holders have it under one
  under_one : (g : ℕ) (t : Tag) → (region_spec c (region_of c g)).shareable ≡ true → has_tag p.tags t ≡ true → stands_for c p g t ≡ true → (h : HostId) → holds h g past ≡ true → HasUnder c h t g past
  under_one g t shared open_tag stands h e =
      let test : Extent → Bool = λ x. has_granule (run_of c h x) g in
      let of_tag : Extent → Bool = λ x. same_tag x.tag t in
      let both : list_any (λ x. has_granule (run_of c h x) g && same_tag x.tag t) (p.accepted h) ≡ true =
      any-of-each test (λ x. has_granule (run_of c h x) g && same_tag x.tag t) (p.accepted h)
      (each-change (λ x. has_granule (run_of c h x) g ≡ true → (has_tag p.tags x.tag ≡ true) × (stands_for c p g x.tag ≡ true)) (λ x. test x ≡ true → (has_granule (run_of c h x) g && same_tag x.tag t) ≡ true)
      (λ x f has. let e = f has in and_from (has_granule (run_of c h x) g) (same_tag x.tag t) has (one_tag x.tag e.0 e.1))
      (p.accepted h) (each_claims h g (is_host h g e) shared)) (reached h g e) in
      any-map (λ run. has_granule run g) (run_of c h) (filter of_tag (p.accepted h)) ∙ any-filter test of_tag (p.accepted h) both
    where
      one_tag : (u : Tag) → has_tag p.tags u ≡ true → stands_for c p g u ≡ true → same_tag u t ≡ true
      one_tag u open_too stands_too = elim (cases_Bool (same_tag u t)) [
        | inl same ↦ same
        | inr other ↦ absurd (omega (arith, two-many (stands_for c p g) p.tags u t other open_too open_tag stands_too stands, s.apart g, length-filter (stands_for c p g) p.tags))
      ]

  -- where no open tag stands for a granule of a shareable region, nobody holds it
  nobody : (g : ℕ) → (region_spec c (region_of c g)).shareable ≡ true → list_any (stands_for c p g) p.tags ≡ false → (h : HostId) → holds h g past ≡ true → ⊥
  nobody g shared none_stands h e =
      let test : Extent → Bool = λ x. has_granule (run_of c h x) g in
      absurd (false≢true (sym (any_false (p.accepted h)) ∙ any-of-each test (λ x. false) (p.accepted h)
      (each-change (λ x. has_granule (run_of c h x) g ≡ true → (has_tag p.tags x.tag ≡ true) × (stands_for c p g x.tag ≡ true)) (λ x. test x ≡ true → false ≡ true)
      (λ x f has. let e = f has in sym none_stands ∙ any_tag (stands_for c p g) p.tags x.tag e.0 e.1) (p.accepted h) (each_claims h g (is_host h g e) shared)) (reached h g e)))
    where
      any_false : (xs : List Extent) → list_any (λ x. false) xs ≡ false
      any_false [] = refl
      any_false (x ∷ xs) = any_false xs

  pub sound_apart : Apart c past
  sound_apart = record {
    alone = λ g h k private a b. s.one h k g private (claims h g a) (claims k g b);
    shared = λ g shared. elim (cases_Bool (list_any (stands_for c p g) p.tags)) [
      | inl some ↦ (let t = some_tag (stands_for c p g) p.tags some in (t.0, λ h e. under_one g t.0 shared t.1 t.2 h e))
      | inr none_stands ↦ (zero_tag, λ h e. absurd (nobody g shared none_stands h e))
    ];
  }

-- After every legal journal the holdings hold.
pub legal_holdings : (c : Configuration) → IsSound c → (journal : List Entry) → Legal c journal → Holdings c journal
legal_holdings c sound journal legal = sound_gives_holdings c sound journal (legal_is_sound c sound journal legal)

-- And at every moment of it holding is exclusive.
pub legal_exclusive : (c : Configuration) → IsSound c → (journal : List Entry) → Legal c journal → Exclusive c journal
legal_exclusive c sound journal legal before after is =
    sound_apart c sound (effects before) (legal_is_sound c sound before (Each-front (Meets c) before after (subst (Legal c) is legal)))
