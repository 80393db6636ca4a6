-- There are no more open tags than granules, since each has one that no other has.
use Rattle.std.proofs.Common.{◌≡◌, ℕ, zero, suc, ◌+◌, ◌<◌, ◌≤◌, Bool, true, List, [], ◌∷◌, map, length, refl, ap, subst, ◌∙◌, inl, inr, arith, cond}
use Rattle.std.proofs.lemmas.{Bool.cases_eq, Bool.le-leb, Bool.lt-ltb, Bool.or_left, Bool.or_right, List.Sums.sum_by-cons}
use Rattle.std.specs.{List.AllByRecursion, Prelude.count_by}
use Rattle.event_records.specs.dcd_base.specs.{Words.has_granule, Words.has_in_runs, Words.has_tag, Words.same_tag, declared.capacity.Extent.Extent, declared.capacity.Tag.Tag}
use Rattle.event_records.specs.dcd_base.specs.declared.{ids.HostId.HostId, media.Run.Run}
use Rattle.extent_list.specs.media_map.specs.{Places.run_of, region_config.proofs.Faultless.granules_rise, region_config.specs.Configurations.Configuration, region_config.specs.Granules.granule_total}
use Rattle.extent_list.specs.media_map.specs.region_config.specs.Soundness.{IsSound}
use Rattle.device_state.specs.device_rules.{proofs.BlockRuns.block_run, proofs.Homes.supported_whole, proofs.TagSteps.same_tag-self, specs.Pictures.Picture}
use Rattle.device_state.specs.device_rules.specs.{Standing.IsMade, Standing.IsOpen, Standing.Stands, Tags.tag_runs}

abbrev sum_below : (ℕ → ℕ) → ℕ → ℕ
sum_below f zero = 0
sum_below f (suc n) = sum_below f n + f n

at_most_one : (f : ℕ → ℕ) (n : ℕ) → ((g : ℕ) → f g ≤ 1) → sum_below f n ≤ n
at_most_one f zero one = omega arith
at_most_one f (suc n) one = omega (arith, at_most_one f n one, one n)

one_at : (f : ℕ → ℕ) (n g : ℕ) → g < n → f g ≡ 1 → 1 ≤ sum_below f n
one_at f zero g below is = absurd (omega (arith, below))
one_at f (suc n) g below is = elim (cases_eq g n) [
  | inl here ↦ omega (arith, subst (λ k. f k ≡ 1) here is)
  | inr before ↦ omega (arith, one_at f n g (omega (arith, below, before)) is)
]

sum_both : (a b : ℕ → ℕ) (n : ℕ) → sum_below (λ g. a g + b g) n ≡ sum_below a n + sum_below b n
sum_both a b zero = omega arith
sum_both a b (suc n) = omega (arith, sum_both a b n)

-- the tag, or whatever it is, has a granule of the first n
abbrev pub HasOne : {X : Type 0} → (X → ℕ → Bool) → ℕ → X → Type 0
HasOne test n t = (g : ℕ) × (g < n) × (test t g ≡ true)

tags_sum : {X : Type 0} (test : X → ℕ → Bool) (n : ℕ) (tags : List X) → AllByRecursion (HasOne test n) tags → length tags ≤ sum_below (λ g. count_by (λ t. test t g) tags) n
tags_sum test n [] each = omega arith
tags_sum test n (t ∷ tags) each =
    let parts : sum_below (λ g. count_by (λ u. test u g) (t ∷ tags)) n ≡ sum_below (λ g. cond (test t g) 1 0) n + sum_below (λ g. count_by (λ u. test u g) tags) n =
    (λ i. sum_below (λ g. sum_by-cons (λ u. cond (test u g) 1 0) t tags i) n) ∙ sum_both (λ g. cond (test t g) 1 0) (λ g. count_by (λ u. test u g) tags) n in
    omega (arith, parts, tags_sum test n tags each.1, one_at (λ g. cond (test t g) 1 0) n each.0.0 each.0.1 (ap (λ b. cond b 1 0) each.0.2))

-- those that have a granule each, and none that another has, are no more than the granules
pub no_more : {X : Type 0} (test : X → ℕ → Bool) (n : ℕ) (xs : List X) → AllByRecursion (HasOne test n) xs → ((g : ℕ) → count_by (λ x. test x g) xs ≤ 1) → length xs ≤ n
no_more test n xs each apart = omega (arith, tags_sum test n xs each, at_most_one (λ g. count_by (λ x. test x g) xs) n apart)

all_tags : (P : Tag → Type 0) (tags : List Tag) → ((t : Tag) → has_tag tags t ≡ true → P t) → AllByRecursion P tags
all_tags P [] each = tt
all_tags P (t ∷ tags) each = (
  each t (or_left (same_tag t t) (has_tag tags t) (same_tag-self t)),
  all_tags P tags (λ u has. each u (or_right (same_tag u t) (has_tag tags u) has)),
)

pub own_first : (run : Run) → 0 < run.count → has_granule run run.first ≡ true
own_first run some = rw (le-leb run.first run.first (omega arith)) (lt-ltb run.first (run.first + run.count) (omega (arith, some)))

module _ (c : Configuration) (sound : IsSound c) (p : Picture) (stands : Stands c p) where
  abbrev stands_for : Tag → ℕ → Bool
  stands_for t g = has_in_runs (tag_runs c (p.last t)) g

  -- the first granule of what is made of blocks
  first_granule_of : (h : HostId) → h < c.hosts → (r : ℕ) (x : Extent) (xs : List Extent) → IsMade c (p.block r) h r x →
      (g : ℕ) × (g < granule_total c) × (has_in_runs (map (run_of c h) (x ∷ xs)) g ≡ true)
  first_granule_of h host r x xs made =
      let whole = supported_whole c r (p.block r) (stands.blocks r made.known) in
      let b = block_run c h sound host (p.block r) r x whole made in
      let run : Run = run_of c h x in
      let known : run.first < granule_total c = omega (arith, b.to, b.some, granules_rise c (suc r) (length c.regions) b.known) in
      (run.first, known, or_left (has_granule run run.first) (has_in_runs (map (run_of c h) xs) run.first) (own_first run b.some))

  one_granule : (t : Tag) → (o : IsOpen c p t) → (xs : List Extent) → o.extents ≡ xs → HasOne stands_for (granule_total c) t
  one_granule t o [] is = absurd (omega (arith, o.some, ap length is))
  one_granule t o (x ∷ xs) is =
      let each : AllByRecursion (IsMade c (p.block o.region) o.host o.region) (x ∷ xs) = subst (AllByRecursion (IsMade c (p.block o.region) o.host o.region)) is o.each in
      let found = first_granule_of o.host o.known o.region x xs each.0 in
      let runs : tag_runs c (p.last t) ≡ map (run_of c o.host) (x ∷ xs) = ap (tag_runs c) o.offer ∙ ap (map (run_of c o.host)) is in
      (found.0, found.1, ap (λ (runs : List Run). has_in_runs runs found.0) runs ∙ found.2)

  pub few_tags : length p.tags ≤ granule_total c
  few_tags =
      omega (
        arith,
        tags_sum stands_for (granule_total c) p.tags (all_tags (HasOne stands_for (granule_total c)) p.tags (λ t has. let o = stands.opened t has in one_granule t o o.extents refl)),
        at_most_one (λ g. count_by (λ t. stands_for t g) p.tags) (granule_total c) stands.apart,
      )
