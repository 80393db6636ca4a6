-- Once the tags of a command have ended, what stood within it is sound again.
use Rattle.std.proofs.Common.{◌≡◌, ℕ, zero, suc, ◌+◌, ◌<◌, ◌≤◌, ◌⊎◌, Bool, true, false, not, ◌&&◌, ◌||◌, List, [], ◌∷◌, ◌++◌, length, refl, ap, sym, ◌∙◌, subst, inl, inr, arith}
use Rattle.std.{proofs.lemmas.List.Folds.list_any-append, proofs.lemmas.List.Sums.length-filter, specs.List.AllByRecursion, specs.List.filter, specs.List.list_any, specs.List.range_with_len}
use Rattle.std.specs.Prelude.{flat_map}
use Rattle.std.proofs.lemmas.Bool.{and_from, and_parts, cases_Bool, cases_lt, false≢true, false_from_ne_true, not-true, not_from_false, or_left, or_right}
use Rattle.cci_codec.specs.dcd_base.specs.{declared.capacity.Extent.Extent, declared.capacity.Tag.Tag, declared.ids.HostId.HostId, Words.has_in_runs, Words.has_tag, Words.is_zero_tag, Words.same_tag}
use Rattle.extent_list.specs.{media_map.specs.region_config.specs.Configurations.Configuration, ExtentLists.has_extent_of}
use Rattle.journal_core.specs.declared.outcome.Effect.{Effect}
use Rattle.device_rules.proofs.{ListSteps.each-change, ListSteps.many, Pictures.picture-append, Pictures.picture-outcome}
use Rattle.device_rules.proofs.TagSteps.{has_tag-filter, has_tag-kept, not_ended, open_before, open_still, same_tag-self, without_tag, without_tags}
use Rattle.device_rules.specs.Outcomes.{Outcome, effects_of, ended}
use Rattle.device_rules.specs.Pictures.{Picture, extents_at, is_with_a_host, lives, picture_after, picture_of}
use Rattle.device_rules.specs.{Standing.IsHome, Standing.IsUnder, Standing.Sound, Standing.Stands, Tags.tag_runs}

-- ---- a host with an extent of the tag keeps it alive

-- a member of a range that passes
pub any-range : (p : ℕ → Bool) (a n h : ℕ) → a ≤ h → h < a + n → p h ≡ true → list_any p (range_with_len a n) ≡ true
any-range p a zero h low high e = absurd (omega (arith, low, high))
any-range p a (suc n) h low high e = elim (cases_lt a h) [
  | inl later ↦ or_right (p a) (list_any p (range_with_len (a + 1) n)) (any-range p (a + 1) n h (omega (arith, later)) (omega (arith, high)) e)
  | inr first ↦ (let same : h ≡ a = omega (arith, low, first) in or_left (p a) (list_any p (range_with_len (a + 1) n)) (ap p (sym same) ∙ e))
]

of_offers : (t : Tag) (offers : List (List Extent)) → has_extent_of t (flat_map (λ xs. xs) offers) ≡ list_any (has_extent_of t) offers
of_offers t [] = refl
of_offers t (xs ∷ offers) = list_any-append (λ x. same_tag x.tag t) xs (flat_map (λ ys. ys) offers) ∙ ap (λ b. has_extent_of t xs || b) (of_offers t offers)

-- whether one of the host's extents has the tag
pub host_has : (p : Picture) (h : HostId) (t : Tag) → has_extent_of t (extents_at p h) ≡ (has_extent_of t (p.accepted h) || list_any (has_extent_of t) (p.offers h))
host_has p h t = list_any-append (λ x. same_tag x.tag t) (p.accepted h) (flat_map (λ ys. ys) (p.offers h)) ∙ ap (λ b. has_extent_of t (p.accepted h) || b) (of_offers t (p.offers h))

pub host_keeps : (c : Configuration) (p : Picture) (h : HostId) (t : Tag) → h < c.hosts → has_extent_of t (extents_at p h) ≡ true → is_with_a_host c p t ≡ true
host_keeps c p h t host has = any-range (λ k. has_extent_of t (p.accepted k) || list_any (has_extent_of t) (p.offers k)) 0 c.hosts h (omega arith) (omega (arith, host)) (sym (host_has p h t) ∙ has)

module _ (c : Configuration) (p : Picture) (s : Stands c p) where
  -- a host that has an extent is one of the device
  pub is_host : (h : HostId) → 0 < length (extents_at p h) → h < c.hosts
  is_host h some = elim (cases_lt h c.hosts) [
    | inl host ↦ host
    | inr past ↦ (let none : extents_at p h ≡ [] = rw (s.no_accepted h past, s.no_offers h past) refl in absurd (omega (arith, some, ap length none)))
  ]

  some_of : (t : Tag) (xs : List Extent) → has_extent_of t xs ≡ true → 0 < length xs
  some_of t [] e = absurd (false≢true e)
  some_of t (x ∷ xs) e = omega arith

  -- so an open tag of one of its extents is live
  pub extent_lives : (h : HostId) (t : Tag) → has_tag p.tags t ≡ true → has_extent_of t (extents_at p h) ≡ true → lives c p t ≡ true
  extent_lives h t open_tag has =
      and_from (not (is_zero_tag t)) (is_with_a_host c p t || p.referenced t)
      (not_from_false (is_zero_tag t) (s.opened t open_tag).nonzero)
      (or_left (is_with_a_host c p t) (p.referenced t) (host_keeps c p h t (is_host h (some_of t (extents_at p h) has)) has))

-- ---- fewer tags

count-filter : {X : Type 0} (p q : X → Bool) (xs : List X) → many p (filter q xs) ≤ many p xs
count-filter p q [] = omega arith
count-filter p q (x ∷ xs) = elim (cases_Bool (q x)) [
  | inl passes ↦ elim (cases_Bool (p x)) [
    | inl here ↦ rw (passes, here) (omega (arith, count-filter p q xs))
    | inr not_here ↦ rw (passes, not_here) (count-filter p q xs)
  ]
  | inr fails ↦ elim (cases_Bool (p x)) [
    | inl here ↦ rw (fails, here) (omega (arith, count-filter p q xs))
    | inr not_here ↦ rw (fails, not_here) (count-filter p q xs)
  ]
]

count-ends : (p : Tag → Bool) (tags ended : List Tag) → many p (without_tags tags ended) ≤ many p tags
count-ends p tags [] = omega arith
count-ends p tags (t ∷ ended) = omega (arith, count-ends p (without_tag tags t) ended, count-filter p (λ u. not (same_tag u t)) tags)

-- each with its tag among those of the list
pub each-tagged : (P Q : Extent → Type 0) (xs : List Extent) → ((x : Extent) → has_extent_of x.tag xs ≡ true → P x → Q x) → AllByRecursion P xs → AllByRecursion Q xs
each-tagged P Q [] f a = tt
each-tagged P Q (x ∷ xs) f a = (
  f x (or_left (same_tag x.tag x.tag) (has_extent_of x.tag xs) (same_tag-self x.tag)) a.0,
  each-tagged P Q xs (λ y has b. f y (or_right (same_tag x.tag y.tag) (has_extent_of y.tag xs) has) b) a.1,
)

-- Where every tag that an extent has is left, what stood stands with fewer tags.
pub stands_without : (c : Configuration) (p : Picture) (ended : List Tag) → Stands c p
    → ((t : Tag) → has_tag p.tags t ≡ true → has_tag ended t ≡ true → lives c p t ≡ false)
    → Stands c (record p { tags = without_tags p.tags ended })
stands_without c p ended s dead = let q : Picture = record p { tags = without_tags p.tags ended } in record {
  no_accepted = s.no_accepted;
  no_offers = s.no_offers;
  held = s.held;
  once = s.once;
  one = s.one;
  apart = λ g. let test : Tag → Bool = λ t. has_in_runs (tag_runs c (p.last t)) g in
      omega (arith, s.apart g, count-ends test p.tags ended, length-filter test (without_tags p.tags ended), length-filter test p.tags);
  few = s.few;
  home = λ h. each-change (IsHome c p h) (IsHome c q h) (λ x a. record { region = a.region; made = a.made }) (extents_at p h) (s.home h);
  under = λ h. each-tagged (IsUnder c p h) (IsUnder c q h) (extents_at p h) (λ x has u shared. let a = u shared in record {
    open_tag = open_still p.tags ended x.tag a.open_tag (false_from_ne_true (has_tag ended x.tag) (λ over.
        absurd (false≢true (sym (dead x.tag a.open_tag over) ∙ extent_lives c p s h x.tag a.open_tag has))));
    covered = a.covered;
  }) (s.under h);
  together = s.together;
  opened = λ t e. let a = s.opened t (open_before p.tags ended t e) in record {
    host = a.host;
    extents = a.extents;
    region = a.region;
    offer = a.offer;
    known = a.known;
    shareable = a.shareable;
    each = a.each;
    some = a.some;
    apart = a.apart;
    nonzero = a.nonzero;
  };
  blocks = s.blocks;
}

-- ---- a command

pub ended_parts : (p q : Tag → Bool) (tags : List Tag) (t : Tag) → has_tag (filter (λ u. p u && not (q u)) tags) t ≡ true → q t ≡ false
ended_parts p q tags t e = not-true (q t) (and_parts (p t) (not (q t)) (has_tag-filter (λ u. p u && not (q u)) tags t e).1).1

ended_has : (p q : Tag → Bool) (tags : List Tag) (t : Tag) → has_tag tags t ≡ true → p t ≡ true → q t ≡ false → has_tag (filter (λ u. p u && not (q u)) tags) t ≡ true
ended_has p q tags t has a b = has_tag-kept (λ u. p u && not (q u)) tags t has (and_from (p t) (not (q t)) a (not_from_false (q t) b))

-- A command keeps the whole where its changes leave what stands, and each open tag that they let die was open
-- before and is one of those that may end.
pub outcome_keeps : (c : Configuration) (past : List Effect) (o : Outcome) → Stands c (picture_after c (picture_of c past) o.changes)
    → ((t : Tag) → has_tag (picture_after c (picture_of c past) o.changes).tags t ≡ true →
    (lives c (picture_after c (picture_of c past) o.changes) t ≡ true) ⊎ ((has_tag (picture_of c past).tags t ≡ true) × (has_tag o.tags t ≡ true)))
    → Sound c (picture_of c (past ++ effects_of c past o))
outcome_keeps c past o stands may =
    let p : Picture = picture_of c past in
    let q : Picture = picture_after c p o.changes in
    let over : List Tag = ended c past o.changes o.tags in
    let same : picture_of c (past ++ o.changes) ≡ q = picture-append c past o.changes in
    let alive : (t : Tag) → lives c (picture_of c (past ++ o.changes)) t ≡ lives c q t = λ t. ap (λ r. lives c r t) same in
    let open_then : Tag → Bool = λ t. has_tag p.tags t in
    let live_now : Tag → Bool = λ t. lives c (picture_of c (past ++ o.changes)) t in
    subst (Sound c) (sym (picture-outcome c past o)) (record {
      stands = stands_without c q over stands (λ t e gone. sym (alive t) ∙ ended_parts open_then live_now o.tags t gone);
      live = λ t e. elim (may t (open_before q.tags over t e)) [
        | inl it ↦ it
        | inr was ↦ elim (cases_Bool (lives c q t)) [
          | inl it ↦ it
          | inr dead ↦ absurd (false≢true (sym (not_ended q.tags over t e) ∙ ended_has open_then live_now o.tags t was.1 was.0 (alive t ∙ dead)))
        ]
      ];
    })
