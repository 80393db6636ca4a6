-- One more offer leaves what stands standing, of free granules or of those of an open tag.
use Rattle.std.proofs.Common.{◌≡◌, ◌⊎◌, ℕ, suc, ◌+◌, ◌%◌, ◌<◌, ◌≤◌, Bool, true, false, not, ◌&&◌, ◌||◌, ◌==◌, List, [], ◌∷◌, ◌++◌, length, map, Some, refl, ap, sym, subst, ◌∙◌, inl, inr, arith, append_assoc, length-append}
use Rattle.std.{specs.Prelude.flat_map, specs.Prelude.if◌then◌else◌, specs.List.AllByRecursion, specs.List.list_any, proofs.lemmas.List.Folds.list_any-append, proofs.lemmas.List.Sums.length-filter}
use Rattle.std.proofs.lemmas.Bool.{and_from, and_parts, cases_Bool, eqb-true, eq-eqb, false≢true, or_left, or_right, or_from}
use Rattle.cci_codec.specs.dcd_base.specs.{Limits.extents_supported, Words.has_granule, Words.has_in_runs, Words.has_tag, Words.is_zero_tag, Words.same_tag, declared.capacity.Extent.Extent}
use Rattle.cci_codec.specs.dcd_base.specs.declared.{capacity.Tag.Tag, ids.HostId.HostId, media.Run.Run}
use Rattle.extent_list.{proofs.EachTag.or_false, specs.ExtentLists.has_extent_of, specs.media_map.specs.Places.region_at, specs.media_map.specs.Places.run_of}
use Rattle.extent_list.specs.media_map.specs.region_config.specs.{Configurations.Configuration, Granules.granule_size, Granules.hosts_of, Granules.region_of, Granules.region_spec, Soundness.IsSound}
use Rattle.journal_core.specs.declared.outcome.Effect.{Effect}
use Rattle.device_rules.proofs.{Holding.present_whole, Homes.made_of_region, Homes.made_region, Settling.extent_lives, TagSteps.same_tag-is, TagSteps.same_tag-self}
use Rattle.device_rules.specs.Pictures.{Picture, count_on, extents_at, is_with_a_host, lives, picture_after}
use Rattle.device_rules.specs.{Standing.IsHome, Standing.IsMade, Standing.IsOpen, Standing.IsTogether, Standing.IsUnder, Standing.Sound, Standing.Stands, Tags.region_of_offer, Tags.tag_runs}
use Rattle.device_rules.proofs.ListSteps.{any-map, each-append, each-at, each-both, each-change, flat-push, many, many-append, many-none}

-- whether an extent of the list has the granule
abbrev pub reaches : Configuration → HostId → List Extent → ℕ → Bool
reaches c h xs g = list_any (λ x. has_granule (run_of c h x) g) xs

-- the extents are of one region, of present blocks, with one tag, and no two share a granule
pub record IsOffer (c : Configuration) (p : Picture) (h : HostId) (r : ℕ) (t : Tag) (new : List Extent) : Type 0 where
  pub host : h < c.hosts
  pub made : AllByRecursion (IsMade c (p.block r) h r) new
  pub marked : AllByRecursion (λ x. x.tag ≡ t) new
  pub apart : (g : ℕ) → count_on c h g new ≤ 1
  pub few : length (extents_at p h) + length new ≤ extents_supported
  -- the host has none of their granules, and where nothing is shared no host has
  pub own : (g : ℕ) → reaches c h new g ≡ true → count_on c h g (extents_at p h) ≡ 0
  pub all : (region_spec c r).shareable ≡ false → (g : ℕ) → reaches c h new g ≡ true → (k : HostId) → count_on c k g (extents_at p k) ≡ 0

-- the tags that stand for the granule
abbrev pub stands_for : Configuration → Picture → ℕ → Tag → Bool
stands_for c p g t = has_in_runs (tag_runs c (p.last t)) g

-- the tag was not open, and no open tag has the granules
pub record IsFresh (c : Configuration) (p : Picture) (h : HostId) (r : ℕ) (t : Tag) (new : List Extent) : Type 0 where
  pub closed : has_tag p.tags t ≡ false
  pub nonzero : (region_spec c r).shareable ≡ true → is_zero_tag t ≡ false
  pub untagged : (region_spec c r).shareable ≡ true → (g : ℕ) → reaches c h new g ≡ true → many (stands_for c p g) p.tags ≡ 0

-- the tag was open, and the extents are those of its granules
pub record IsShared (c : Configuration) (p : Picture) (h : HostId) (r : ℕ) (t : Tag) (new : List Extent) : Type 0 where
  pub opened : has_tag p.tags t ≡ true
  pub same_runs : tag_runs c (p.last t) ≡ map (run_of c h) new
  pub shareable : (region_spec c r).shareable ≡ true

-- tests that agree on the tags count alike
many-tags : (p q : Tag → Bool) (tags : List Tag) → ((t : Tag) → has_tag tags t ≡ true → p t ≡ q t) → many p tags ≡ many q tags
many-tags p q [] agree = refl
many-tags p q (t ∷ tags) agree =
    let here = agree t (or_left (same_tag t t) (has_tag tags t) (same_tag-self t)) in
    let rest = many-tags p q tags (λ u e. agree u (or_right (same_tag u t) (has_tag tags u) e)) in
    elim (cases_Bool (q t)) [
      | inl yes_ ↦ rw (here, yes_) (ap suc rest)
      | inr no_ ↦ rw (here, no_) rest
    ]

has-push : (tags : List Tag) (t u : Tag) → has_tag (tags ++ t ∷ []) u ≡ (has_tag tags u || (same_tag u t || false))
has-push tags t u = list_any-append (same_tag u) tags (t ∷ [])

-- a host that passes one test passes another
pub any-implies : {X : Type 0} (f g : X → Bool) (xs : List X) → ((x : X) → f x ≡ true → g x ≡ true) → list_any f xs ≡ true → list_any g xs ≡ true
any-implies f g [] step e = absurd (false≢true e)
any-implies f g (x ∷ xs) step e = elim (cases_Bool (f x)) [
  | inl here ↦ or_left (g x) (list_any g xs) (step x here)
  | inr other ↦ or_right (g x) (list_any g xs) (any-implies f g xs step (rw other at e))
]

-- each extent of a list has no more granules than the list
each_reached : (run : Extent → Run) (xs : List Extent) → AllByRecursion (λ x. (g : ℕ) → has_granule (run x) g ≡ true → has_in_runs (map run xs) g ≡ true) xs
each_reached run [] = tt
each_reached run (x ∷ xs) = (
  (λ g e. or_left (has_granule (run x) g) (has_in_runs (map run xs) g) e),
  each-change (λ y. (g : ℕ) → has_granule (run y) g ≡ true → has_in_runs (map run xs) g ≡ true)
      (λ y. (g : ℕ) → has_granule (run y) g ≡ true → has_in_runs (map run (x ∷ xs)) g ≡ true)
      (λ y f g e. or_right (has_granule (run x) g) (has_in_runs (map run xs) g) (f g e)) xs (each_reached run xs),
)

none_of_tag : (t u : Tag) (xs : List Extent) → AllByRecursion (λ x. x.tag ≡ t) xs → same_tag t u ≡ false → has_extent_of u xs ≡ false
none_of_tag t u [] marked other = refl
none_of_tag t u (x ∷ xs) marked other = or_from (same_tag x.tag u) (has_extent_of u xs) (ap (λ v. same_tag v u) marked.0 ∙ other) (none_of_tag t u xs marked.1 other)

module _ (c : Configuration) (sound : IsSound c) (p : Picture) (before : Sound c p) (h : HostId) (r : ℕ) (t : Tag)
    (x : Extent) (xs : List Extent) (o : IsOffer c p h r t (x ∷ xs)) (way : IsFresh c p h r t (x ∷ xs) ⊎ IsShared c p h r t (x ∷ xs)) where
  s : Stands c p
  s = before.stands

  abbrev pub q : Picture
  q = picture_after c p (Effect.Offer h (x ∷ xs) ∷ [])

  whole : p.block r % granule_size c r ≡ 0
  whole = present_whole c sound p s r o.made.0.known

  here_is : (y : Extent) → IsMade c (p.block r) h r y → region_at c h y.start ≡ r
  here_is y m = made_region c h sound o.host (p.block r) r y whole m

  -- ---- the lists

  at_host : extents_at q h ≡ extents_at p h ++ (x ∷ xs)
  at_host =
      ap (λ b. p.accepted h ++ flat_map (λ ys. ys) (if b then p.offers h ++ (x ∷ xs) ∷ [] else p.offers h)) (eq-eqb h h refl)
      ∙ ap (λ ys. p.accepted h ++ ys) (flat-push (p.offers h) (x ∷ xs))
      ∙ sym (append_assoc (p.accepted h) (flat_map (λ ys. ys) (p.offers h)) (x ∷ xs))

  at_other : (k : HostId) → (h == k) ≡ false → extents_at q k ≡ extents_at p k
  at_other k other = ap (λ b. p.accepted k ++ flat_map (λ ys. ys) (if b then p.offers k ++ (x ∷ xs) ∷ [] else p.offers k)) other

  -- what holds of the lists of both holds of all
  each_host : (P : HostId → List Extent → Type 0) → P h (extents_at p h ++ (x ∷ xs)) → ((k : HostId) → P k (extents_at p k)) → (k : HostId) → P k (extents_at q k)
  each_host P here others k = elim (cases_Bool (h == k)) [
    | inl same ↦ (let is : h ≡ k = eqb-true h k same in subst (λ l. P l (extents_at q l)) is (subst (P h) (sym at_host) here))
    | inr other ↦ subst (P k) (sym (at_other k other)) (others k)
  ]

  abbrev on : HostId → ℕ → Extent → Bool
  on k g y = has_granule (run_of c k y) g

  -- ---- the tags

  -- the last offers of the others stay
  last_new : q.last t ≡ Some (h, x ∷ xs)
  last_new =
      let it : has_extent_of t (x ∷ xs) ≡ true = or_left (same_tag x.tag t) (has_extent_of t xs) (ap (λ u. same_tag u t) o.marked.0 ∙ same_tag-self t) in
      ap (λ b. if b then Some (h, x ∷ xs) else p.last t) it

  last_other : (u : Tag) → same_tag t u ≡ false → q.last u ≡ p.last u
  last_other u other = ap (λ b. if b then Some (h, x ∷ xs) else p.last u) (none_of_tag t u (x ∷ xs) o.marked other)

  -- so what an open tag stands for stays
  runs_stay : (u : Tag) → has_tag p.tags u ≡ true → tag_runs c (q.last u) ≡ tag_runs c (p.last u)
  runs_stay u e = elim (cases_Bool (same_tag t u)) [
    | inr other ↦ ap (tag_runs c) (last_other u other)
    | inl same ↦ elim way [
      | inl fresh ↦ absurd (false≢true (sym fresh.closed ∙ ap (has_tag p.tags) (same_tag-is t u same) ∙ e))
      | inr shared ↦ subst (λ v. tag_runs c (q.last v) ≡ tag_runs c (p.last v)) (same_tag-is t u same) (ap (tag_runs c) last_new ∙ sym shared.same_runs)
    ]
  ]

  -- the open tags are those before, or the tag is one more
  tags_are : (q.tags ≡ p.tags) ⊎ ((q.tags ≡ p.tags ++ t ∷ []) × ((region_spec c r).shareable ≡ true) × (has_tag p.tags t ≡ false))
  tags_are =
      let first : IsMade c (p.block r) h r x = o.made.0 in
      let share : Bool = (region_spec c (region_at c h x.start)).shareable in
      let of_region : (region_spec c (region_at c h x.start)).shareable ≡ (region_spec c r).shareable = ap (λ k. (region_spec c k).shareable) (here_is x first) in
      let of_tag : has_tag p.tags x.tag ≡ has_tag p.tags t = ap (has_tag p.tags) o.marked.0 in
      let opening : (share && not (has_tag p.tags x.tag)) ≡ ((region_spec c r).shareable && not (has_tag p.tags t)) = ap (λ b. b && not (has_tag p.tags x.tag)) of_region ∙ ap (λ b. (region_spec c r).shareable && not b) of_tag in
      let chosen : q.tags ≡ (if (region_spec c r).shareable && not (has_tag p.tags t) then p.tags ++ x.tag ∷ [] else p.tags) = ap (λ b. if b then p.tags ++ x.tag ∷ [] else p.tags) opening in
      elim (cases_Bool (region_spec c r).shareable) [
        | inr private ↦ inl (chosen ∙ ap (λ b. if b && not (has_tag p.tags t) then p.tags ++ x.tag ∷ [] else p.tags) private)
        | inl shared ↦ elim (cases_Bool (has_tag p.tags t)) [
          | inl is ↦ inl (chosen ∙ ap (λ b. if (region_spec c r).shareable && not b then p.tags ++ x.tag ∷ [] else p.tags) is ∙ ap (λ b. if b && false then p.tags ++ x.tag ∷ [] else p.tags) shared)
          | inr closed ↦ inr ((chosen ∙ ap (λ b. if (region_spec c r).shareable && not b then p.tags ++ x.tag ∷ [] else p.tags) closed ∙ ap (λ b. if b && true then p.tags ++ x.tag ∷ [] else p.tags) shared ∙ ap (λ u. p.tags ++ u ∷ []) o.marked.0), shared, closed)
        ]
      ]

  -- an open tag stays open
  still_open : (u : Tag) → has_tag p.tags u ≡ true → has_tag q.tags u ≡ true
  still_open u e = elim tags_are [
    | inl same ↦ ap (λ tags. has_tag tags u) same ∙ e
    | inr more ↦ ap (λ tags. has_tag tags u) more.0 ∙ has-push p.tags t u ∙ or_left (has_tag p.tags u) (same_tag u t || false) e
  ]

  -- and what is open now was so, or is the tag
  open_now : (u : Tag) → has_tag q.tags u ≡ true → (has_tag p.tags u ≡ true) ⊎ ((u ≡ t) × ((region_spec c r).shareable ≡ true))
  open_now u e = elim tags_are [
    | inl same ↦ inl (sym (ap (λ tags. has_tag tags u) same) ∙ e)
    | inr more ↦ (let parts : (has_tag p.tags u || (same_tag u t || false)) ≡ true = sym (ap (λ tags. has_tag tags u) more.0 ∙ has-push p.tags t u) ∙ e in
        elim (cases_Bool (has_tag p.tags u)) [
          | inl was ↦ inl was
          | inr not_before ↦ inr (same_tag-is u t (sym (or_false (same_tag u t)) ∙ (rw not_before at parts)), more.1)
        ])
  ]

  -- where the region is shareable the tag is open now, and not zero
  opened_now : (region_spec c r).shareable ≡ true → has_tag q.tags t ≡ true
  opened_now shared = elim way [
    | inr was ↦ still_open t was.opened
    | inl fresh ↦ elim tags_are [
      | inr more ↦ ap (λ tags. has_tag tags t) more.0 ∙ has-push p.tags t t ∙ or_right (has_tag p.tags t) (same_tag t t || false) (or_left (same_tag t t) false (same_tag-self t))
      | inl same ↦ absurd (opens shared fresh.closed same)
    ]
  ]
    where
      -- the list can't be longer and the same
      opens : (region_spec c r).shareable ≡ true → has_tag p.tags t ≡ false → q.tags ≡ p.tags → ⊥
      opens shared closed same =
          let first : IsMade c (p.block r) h r x = o.made.0 in
          let of_region : (region_spec c (region_at c h x.start)).shareable ≡ true = ap (λ k. (region_spec c k).shareable) (here_is x first) ∙ shared in
          let of_tag : has_tag p.tags x.tag ≡ false = ap (has_tag p.tags) o.marked.0 ∙ closed in
          let longer : q.tags ≡ p.tags ++ x.tag ∷ [] = ap (λ b. if b && not (has_tag p.tags x.tag) then p.tags ++ x.tag ∷ [] else p.tags) of_region ∙ ap (λ b. if true && not b then p.tags ++ x.tag ∷ [] else p.tags) of_tag in
          absurd (omega (arith, ap length (sym same ∙ longer), length-append p.tags (x.tag ∷ [])))

  nonzero_now : (region_spec c r).shareable ≡ true → is_zero_tag t ≡ false
  nonzero_now shared = elim way [
    | inl fresh ↦ fresh.nonzero shared
    | inr was ↦ (s.opened t was.opened).nonzero
  ]

  -- ---- the granules

  -- a granule of the new extents is one of the region
  new_region : (g : ℕ) → reaches c h (x ∷ xs) g ≡ true → region_of c g ≡ r
  new_region g e =
      let found = each-at (IsMade c (p.block r) h r) (on h g) (x ∷ xs) o.made e in
      made_of_region c h sound o.host (p.block r) r found.0 whole found.2 g found.1

  once_here : (g : ℕ) → count_on c h g (extents_at p h ++ (x ∷ xs)) ≤ 1
  once_here g = elim (cases_Bool (reaches c h (x ∷ xs) g)) [
    | inl has ↦ omega (arith, many-append (on h g) (extents_at p h) (x ∷ xs), o.own g has, o.apart g)
    | inr has_none ↦ omega (arith, many-append (on h g) (extents_at p h) (x ∷ xs), many-none (on h g) (x ∷ xs) has_none, s.once h g)
  ]

  -- who has a granule now had it, or is the host and it is new
  abbrev Had : HostId → ℕ → Type 0
  Had k g = (0 < count_on c k g (extents_at p k)) ⊎ ((h ≡ k) × (reaches c h (x ∷ xs) g ≡ true))

  had : (g : ℕ) (k : HostId) → 0 < count_on c k g (extents_at q k) → Had k g
  had g k some = each_host (λ k ys. 0 < count_on c k g ys → Had k g)
      (λ many_here. elim (cases_Bool (reaches c h (x ∷ xs) g)) [
        | inl has ↦ inr (refl, has)
        | inr has_none ↦ inl (omega (arith, many_here, many-append (on h g) (extents_at p h) (x ∷ xs), many-none (on h g) (x ∷ xs) has_none))
      ])
      (λ l some_there. inl some_there) k some

  one_now : (g : ℕ) (k l : HostId) → (region_spec c (region_of c g)).shareable ≡ false → Had k g → Had l g → k ≡ l
  one_now g k l private (inl a) (inl b) = s.one k l g private a b
  one_now g k l private (inr a) (inr b) = sym a.0 ∙ b.0
  one_now g k l private (inl a) (inr b) =
      let here : (region_spec c r).shareable ≡ false = ap (λ m. (region_spec c m).shareable) (sym (new_region g b.1)) ∙ private in
      absurd (omega (arith, a, o.all here g b.1 k))
  one_now g k l private (inr a) (inl b) =
      let here : (region_spec c r).shareable ≡ false = ap (λ m. (region_spec c m).shareable) (sym (new_region g a.1)) ∙ private in
      absurd (omega (arith, b, o.all here g a.1 l))

  stand_alike : (g : ℕ) → many (stands_for c q g) p.tags ≡ many (stands_for c p g) p.tags
  stand_alike g = many-tags (stands_for c q g) (stands_for c p g) p.tags (λ u e. ap (λ runs. has_in_runs runs g) (runs_stay u e))

  before_apart : (g : ℕ) → many (stands_for c p g) p.tags ≤ 1
  before_apart g = omega (arith, s.apart g, length-filter (stands_for c p g) p.tags)

  one_tag : (g : ℕ) → many (stands_for c q g) q.tags ≤ 1
  one_tag g = elim tags_are [
    | inl same ↦ (let e : many (stands_for c q g) q.tags ≡ many (stands_for c q g) p.tags = ap (many (stands_for c q g)) same in omega (arith, e, stand_alike g, before_apart g))
    | inr more ↦ (let e : many (stands_for c q g) q.tags ≡ many (stands_for c q g) p.tags + many (stands_for c q g) (t ∷ []) = ap (many (stands_for c q g)) more.0 ∙ many-append (stands_for c q g) p.tags (t ∷ []) in
        elim (cases_Bool (reaches c h (x ∷ xs) g)) [
          | inr has_none ↦ (let off : stands_for c q g t ≡ false = ap (λ last. has_in_runs (tag_runs c last) g) last_new ∙ any-map (λ run. has_granule run g) (run_of c h) (x ∷ xs) ∙ has_none in
              let nobody : many (stands_for c q g) (t ∷ []) ≡ 0 = many-none (stands_for c q g) (t ∷ []) (or_from (stands_for c q g t) false off refl) in
              omega (arith, e, nobody, stand_alike g, before_apart g))
          | inl has ↦ elim way [
            | inr was ↦ absurd (false≢true (sym more.2 ∙ was.opened))
            | inl fresh ↦ omega (arith, e, one_of (stands_for c q g) t, stand_alike g, fresh.untagged more.1 g has)
          ]
        ])
  ]
    where
      one_of : (test : Tag → Bool) (u : Tag) → many test (u ∷ []) ≤ 1
      one_of test u = elim (cases_Bool (test u)) [
        | inl yes_ ↦ rw yes_ (omega arith)
        | inr no_ ↦ rw no_ (omega arith)
      ]

  -- ---- each extent

  new_home : AllByRecursion (IsHome c q h) (x ∷ xs)
  new_home = each-change (IsMade c (p.block r) h r) (IsHome c q h) (λ y m. record { region = r; made = m }) (x ∷ xs) o.made

  old_home : (k : HostId) → AllByRecursion (IsHome c q k) (extents_at p k)
  old_home k = each-change (IsHome c p k) (IsHome c q k) (λ y a. record { region = a.region; made = a.made }) (extents_at p k) (s.home k)

  old_under : (k : HostId) → AllByRecursion (IsUnder c q k) (extents_at p k)
  old_under k = each-change (IsUnder c p k) (IsUnder c q k) (λ y u shared. let a = u shared in record {
    open_tag = still_open y.tag a.open_tag;
    covered = λ g e. ap (λ runs. has_in_runs runs g) (runs_stay y.tag a.open_tag) ∙ a.covered g e;
  }) (extents_at p k) (s.under k)

  abbrev Reached : Extent → Type 0
  Reached y = (g : ℕ) → has_granule (run_of c h y) g ≡ true → has_in_runs (map (run_of c h) (x ∷ xs)) g ≡ true

  abbrev IsNew : Extent → Type 0
  IsNew y = IsMade c (p.block r) h r y × (y.tag ≡ t)

  new_ones : AllByRecursion IsNew (x ∷ xs)
  new_ones = each-both (IsMade c (p.block r) h r) (λ y. y.tag ≡ t) IsNew (λ y m e. (m, e)) (x ∷ xs) o.made o.marked

  new_under : AllByRecursion (IsUnder c q h) (x ∷ xs)
  new_under = each-both IsNew Reached (IsUnder c q h) (λ y n f shared.
      let here : (region_spec c r).shareable ≡ true = ap (λ k. (region_spec c k).shareable) (sym (here_is y n.0)) ∙ shared in
      record {
        open_tag = ap (has_tag q.tags) n.1 ∙ opened_now here;
        covered = λ g e. ap (λ u. has_in_runs (tag_runs c (q.last u)) g) n.1 ∙ ap (λ last. has_in_runs (tag_runs c last) g) last_new ∙ f g e;
      }) (x ∷ xs) new_ones (each_reached (run_of c h) (x ∷ xs))

  new_together : IsTogether c h (x ∷ xs)
  new_together = (omega arith, each-change (IsMade c (p.block r) h r) (λ y. region_at c h y.start ≡ region_of_offer c h (x ∷ xs)) (λ y m. here_is y m ∙ sym (here_is x o.made.0)) (x ∷ xs) o.made)

  all_together : (k : HostId) → AllByRecursion (IsTogether c k) (q.offers k)
  all_together k = by (h == k) refl
    where
      by : (b : Bool) → (h == k) ≡ b → AllByRecursion (IsTogether c k) (if b then p.offers k ++ (x ∷ xs) ∷ [] else p.offers k)
      by true same = each-append (IsTogether c k) (p.offers k) ((x ∷ xs) ∷ []) (s.together k) (subst (λ l. IsTogether c l (x ∷ xs)) (eqb-true h k same) new_together, tt)
      by false other = s.together k

  -- ---- the open tags

  this_open : (region_spec c r).shareable ≡ true → IsOpen c q t
  this_open shared = record {
    host = h;
    extents = x ∷ xs;
    region = r;
    offer = last_new;
    known = o.host;
    shareable = shared;
    each = o.made;
    some = omega arith;
    apart = o.apart;
    nonzero = nonzero_now shared;
  }

  all_open : (u : Tag) → has_tag q.tags u ≡ true → IsOpen c q u
  all_open u e = elim (open_now u e) [
    | inr it ↦ subst (IsOpen c q) (sym it.0) (this_open it.1)
    | inl was ↦ elim (cases_Bool (same_tag t u)) [
      | inl same ↦ elim way [
        | inl fresh ↦ absurd (false≢true (sym fresh.closed ∙ ap (has_tag p.tags) (same_tag-is t u same) ∙ was))
        | inr shared ↦ subst (IsOpen c q) (same_tag-is t u same) (this_open shared.shareable)
      ]
      | inr other ↦ (let a = s.opened u was in record {
        host = a.host;
        extents = a.extents;
        region = a.region;
        offer = last_other u other ∙ a.offer;
        known = a.known;
        shareable = a.shareable;
        each = a.each;
        some = a.some;
        apart = a.apart;
        nonzero = a.nonzero;
      })
    ]
  ]

  no_offers_past : (k : HostId) → c.hosts ≤ k → q.offers k ≡ []
  no_offers_past k past = elim (cases_Bool (h == k)) [
    | inl same ↦ absurd (omega (arith, eqb-true h k same, o.host, past))
    | inr other ↦ ap (λ b. if b then p.offers k ++ (x ∷ xs) ∷ [] else p.offers k) other ∙ s.no_offers k past
  ]

  -- the offer leaves what stands standing
  pub offer_stands : Stands c q
  offer_stands = record {
    no_accepted = s.no_accepted;
    no_offers = no_offers_past;
    held = s.held;
    once = λ k g. each_host (λ k ys. count_on c k g ys ≤ 1) (once_here g) (λ l. s.once l g) k;
    one = λ k l g private a b. one_now g k l private (had g k a) (had g l b);
    apart = λ g. omega (arith, one_tag g, length-filter (stands_for c q g) q.tags);
    few = each_host (λ k ys. length ys ≤ extents_supported) (omega (arith, o.few, length-append (extents_at p h) (x ∷ xs))) s.few;
    home = each_host (λ k ys. AllByRecursion (IsHome c q k) ys) (each-append (IsHome c q h) (extents_at p h) (x ∷ xs) (old_home h) new_home) old_home;
    under = each_host (λ k ys. AllByRecursion (IsUnder c q k) ys) (each-append (IsUnder c q h) (extents_at p h) (x ∷ xs) (old_under h) new_under) old_under;
    together = all_together;
    opened = all_open;
    blocks = s.blocks;
  }

  -- and each open tag alive
  more_hosts : (u : Tag) → is_with_a_host c p u ≡ true → is_with_a_host c q u ≡ true
  more_hosts u e = any-implies (λ k. has_extent_of u (p.accepted k) || list_any (has_extent_of u) (p.offers k)) (λ k. has_extent_of u (q.accepted k) || list_any (has_extent_of u) (q.offers k)) (hosts_of c) more e
    where
      more_offers : (k : HostId) (b : Bool) → list_any (has_extent_of u) (p.offers k) ≡ true → list_any (has_extent_of u) (if b then p.offers k ++ (x ∷ xs) ∷ [] else p.offers k) ≡ true
      more_offers k true has = list_any-append (has_extent_of u) (p.offers k) ((x ∷ xs) ∷ []) ∙ or_left (list_any (has_extent_of u) (p.offers k)) (list_any (has_extent_of u) ((x ∷ xs) ∷ [])) has
      more_offers k false has = has

      more : (k : HostId) → (has_extent_of u (p.accepted k) || list_any (has_extent_of u) (p.offers k)) ≡ true → (has_extent_of u (q.accepted k) || list_any (has_extent_of u) (q.offers k)) ≡ true
      more k has = elim (cases_Bool (has_extent_of u (p.accepted k))) [
        | inl held ↦ or_left (has_extent_of u (p.accepted k)) (list_any (has_extent_of u) (q.offers k)) held
        | inr not_held ↦ or_right (has_extent_of u (p.accepted k)) (list_any (has_extent_of u) (q.offers k)) (more_offers k (h == k) (rw not_held at has))
      ]

  still_lives : (u : Tag) → lives c p u ≡ true → lives c q u ≡ true
  still_lives u e =
      let parts = and_parts (not (is_zero_tag u)) (is_with_a_host c p u || p.referenced u) e in
      and_from (not (is_zero_tag u)) (is_with_a_host c q u || q.referenced u) parts.0 (elim (cases_Bool (is_with_a_host c p u)) [
        | inl has ↦ or_left (is_with_a_host c q u) (q.referenced u) (more_hosts u has)
        | inr has_none ↦ or_right (is_with_a_host c q u) (q.referenced u) (rw has_none at parts.1)
      ])

  pub offer_lives : (u : Tag) → has_tag q.tags u ≡ true → lives c q u ≡ true
  offer_lives u e = elim (open_now u e) [
    | inl was ↦ still_lives u (before.live u was)
    | inr it ↦ (let is : same_tag x.tag u ≡ true = ap (λ v. same_tag v u) (o.marked.0 ∙ sym it.0) ∙ same_tag-self u in
        extent_lives c q offer_stands h u e (ap (has_extent_of u) at_host ∙ list_any-append (λ y. same_tag y.tag u) (extents_at p h) (x ∷ xs)
        ∙ or_right (has_extent_of u (extents_at p h)) (has_extent_of u (x ∷ xs)) (or_left (same_tag x.tag u) (has_extent_of u xs) is)))
  ]
