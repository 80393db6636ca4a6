-- What the effects of a command make together of what is kept of one granule.
use Rattle.std.proofs.Common.{◌≡◌, ℕ, Bool, true, false, ◌||◌, List, [], ◌∷◌, map, refl, ap, sym, ◌∙◌}
use Rattle.std.{specs.Prelude.fold, specs.Prelude.if◌then◌else◌, specs.List.AllByRecursion, specs.List.list_all, specs.List.list_any, proofs.lemmas.Bool.false≢true}
use Rattle.cci_codec.specs.dcd_base.specs.{Words.has_granule, Words.has_in_runs, declared.capacity.Extent.Extent, declared.capacity.Tag.Tag, declared.ids.HostId.HostId, declared.media.Run.Run}
use Rattle.granule_map.specs.{declared.states.GranuleState.GranuleState, Tables.Cell, Tables.given, Tables.settled, Tables.soiled, Tables.zeroed}
use Rattle.journal_core.specs.declared.outcome.Effect.{Effect}
use Rattle.extent_list.specs.media_map.specs.{Places.run_of, region_config.specs.Configurations.Configuration, region_config.specs.Granules.region_of, region_config.specs.Granules.region_spec}
use Rattle.extent_list.specs.media_map.specs.region_config.specs.declared.region_spec.RegionSpec.{RegionSpec}
use Rattle.device_rules.proofs.{Leaving.is_quiet, Leaving.over-leaving, ListSteps.any-map, ListSteps.each-all, ListSteps.each-change}
use Rattle.device_rules.proofs.{RunEffects.in_extents, RunEffects.run_from, RunEffects.takes, RunEffects.zeros, StatusTags.ends, WholeRuns.IsOneRun}
use Rattle.device_rules.specs.GranuleCells.{cell_after, cell_over, ended_run, offered_extent, offered_run, unoffered_extent, unoffered_run}
use Rattle.device_rules.specs.ReleaseOutcomes.{removals}

-- a change that is made only here
abbrev pub where_here : Bool → (Cell → Cell) → Cell → Cell
where_here here change cell = if here then change cell else cell

-- ---- the changes of a granule, by its region

abbrev pub offered_as : HostId → Tag → RegionSpec → Cell → Cell
offered_as h t spec cell = given (if spec.shareable then GranuleState.Tagged t else GranuleState.Reserved h) cell

abbrev pub taken_as : HostId → RegionSpec → Cell → Cell
taken_as h spec cell = record {
  state = if spec.shareable then cell.state else GranuleState.Held h;
  unclean = if spec.sanitize then true else cell.unclean;
}

abbrev pub left_as : RegionSpec → Cell → Cell
left_as spec cell = if spec.shareable then cell else settled cell

abbrev pub soiled_as : RegionSpec → Cell → Cell
soiled_as spec cell = if spec.shareable then soiled cell else settled (soiled cell)

-- what a removal makes of it, cleaning or not
abbrev pub removed_as : Bool → RegionSpec → Cell → Cell
removed_as clean spec cell = if clean then soiled_as spec cell else left_as spec cell

-- ---- each of them made twice is the same as made once

taken_twice : (h : HostId) (spec : RegionSpec) (cell : Cell) → taken_as h spec (taken_as h spec cell) ≡ taken_as h spec cell
taken_twice h spec cell = λ i. record { state = same_state spec.shareable i; unclean = same_need spec.sanitize i }
  where
    same_state : (b : Bool) → (if b then (if b then cell.state else GranuleState.Held h) else GranuleState.Held h) ≡ (if b then cell.state else GranuleState.Held h)
    same_state true = refl
    same_state false = refl

    same_need : (b : Bool) → (if b then true else (if b then true else cell.unclean)) ≡ (if b then true else cell.unclean)
    same_need true = refl
    same_need false = refl

left_twice : (spec : RegionSpec) (cell : Cell) → left_as spec (left_as spec cell) ≡ left_as spec cell
left_twice spec cell = by spec.shareable
  where
    by : (b : Bool) → (if b then (if b then cell else settled cell) else settled (if b then cell else settled cell)) ≡ (if b then cell else settled cell)
    by true = refl
    by false = refl

soiled_twice : (spec : RegionSpec) (cell : Cell) → soiled_as spec (soiled_as spec cell) ≡ soiled_as spec cell
soiled_twice spec cell = by spec.shareable
  where
    by : (b : Bool) → (if b then soiled (if b then soiled cell else settled (soiled cell)) else settled (soiled (if b then soiled cell else settled (soiled cell)))) ≡ (if b then soiled cell else settled (soiled cell))
    by true = refl
    by false = refl

removed_twice : (clean : Bool) (spec : RegionSpec) (cell : Cell) → removed_as clean spec (removed_as clean spec cell) ≡ removed_as clean spec cell
removed_twice true spec cell = soiled_twice spec cell
removed_twice false spec cell = left_twice spec cell

-- what leaves and is soiled at once is soiled
left_soiled : (here : Bool) (spec : RegionSpec) (cell : Cell) → where_here here (soiled_as spec) (where_here here (left_as spec) cell) ≡ where_here here (soiled_as spec) cell
left_soiled false spec cell = refl
left_soiled true spec cell = by spec.shareable
  where
    by : (b : Bool) → (if b then soiled (if b then cell else settled cell) else settled (soiled (if b then cell else settled cell))) ≡ (if b then soiled cell else settled (soiled cell))
    by true = refl
    by false = refl

-- ---- over lists

-- a change of some of a list is made where one of them makes it
pub once_or_more : {X : Type 0} (change : Cell → Cell) → ((cell : Cell) → change (change cell) ≡ change cell) → (test : X → Bool) (step : Cell → X → Cell) (xs : List X) →
    AllByRecursion (λ x. (cell : Cell) → step cell x ≡ where_here (test x) change cell) xs → (cell : Cell) → fold step cell xs ≡ where_here (list_any test xs) change cell
once_or_more change again test step [] each cell = refl
once_or_more change again test step (x ∷ xs) each cell = ap (λ b. fold step b xs) (each.0 cell) ∙ by (test x) (λ b. once_or_more change again test step xs each.1 b)
  where
    enough : (b : Bool) → where_here b change (change cell) ≡ change cell
    enough true = again cell
    enough false = refl

    by : (b : Bool) → ((first : Cell) → fold step first xs ≡ where_here (list_any test xs) change first) → fold step (where_here b change cell) xs ≡ where_here (b || list_any test xs) change cell
    by true rest = rest (change cell) ∙ enough (list_any test xs)
    by false rest = rest cell

over_map : {X E : Type 0} (f : X → E) (step : Cell → E → Cell) (cell : Cell) (xs : List X) → fold step cell (map f xs) ≡ fold (λ b x. step b (f x)) cell xs
over_map f step cell [] = refl
over_map f step cell (x ∷ xs) = over_map f step (step cell (f x)) xs

-- here the region is the granule's
its_own : {A : Type 0} (f : A → Cell → Cell) (a b : A) (cell : Cell) (here : Bool) → (here ≡ true → a ≡ b) → where_here here (f a) cell ≡ where_here here (f b) cell
its_own f a b cell true same = ap (λ x. f x cell) (same refl)
its_own f a b cell false same = refl

module _ (c : Configuration) (oldest : HostId → List Extent) (runs : Tag → List Run) (g : ℕ) where
  -- Hold, Unhold, Logged, Missed, Cleared, Reset, Ref and Block leave it
  quiet_leaves : (cell : Cell) (e : Effect) → is_quiet e ≡ true → cell_after c oldest runs g cell e ≡ cell
  quiet_leaves cell (Effect.Offer h xs) quiet = absurd (false≢true quiet)
  quiet_leaves cell (Effect.Answer h xs) quiet = absurd (false≢true quiet)
  quiet_leaves cell (Effect.Take h run) quiet = absurd (false≢true quiet)
  quiet_leaves cell (Effect.Leave h run) quiet = absurd (false≢true quiet)
  quiet_leaves cell (Effect.Soil run) quiet = absurd (false≢true quiet)
  quiet_leaves cell (Effect.Zero run) quiet = absurd (false≢true quiet)
  quiet_leaves cell (Effect.TagEnd t) quiet = absurd (false≢true quiet)
  quiet_leaves cell e quiet = refl

  pub cell_quiet : (cell : Cell) (new : List Effect) → list_all is_quiet new ≡ true → cell_over c oldest runs g cell new ≡ cell
  cell_quiet cell new quiet = over-leaving (cell_after c oldest runs g) is_quiet quiet_leaves cell new quiet

  -- the rules of the granule's region
  abbrev spec : RegionSpec
  spec = region_spec c (region_of c g)

  spec_here : (h : HostId) (x : Extent) → IsOneRun c h x → has_granule (run_of c h x) g ≡ true → region_spec c (region_of c (run_of c h x).first) ≡ region_spec c (region_of c g)
  spec_here h x one has = ap (region_spec c) (one.region g has)

  in_list : (h : HostId) (xs : List Extent) (change : Cell → Cell) (cell : Cell) → where_here (list_any (λ x. has_granule (run_of c h x) g) xs) change cell ≡ where_here (in_extents c h xs g) change cell
  in_list h xs change cell = ap (λ b. where_here b change cell) (sym (any-map (λ run. has_granule run g) (run_of c h) xs))

  -- ---- an offer, and the end of one

  offer_step : (h : HostId) (t : Tag) (x : Extent) → IsOneRun c h x → x.tag ≡ t → (cell : Cell) →
      offered_extent c h g cell x ≡ where_here (has_granule (run_of c h x) g) (offered_as h t (region_spec c (region_of c g))) cell
  offer_step h t x one is cell =
      ap (offered_run c h x.tag g cell) one.found
      ∙ ap (λ u. where_here (has_granule (run_of c h x) g) (offered_as h u (region_spec c (region_of c (run_of c h x).first))) cell) is
      ∙ its_own (offered_as h t) (region_spec c (region_of c (run_of c h x).first)) (region_spec c (region_of c g)) cell (has_granule (run_of c h x) g) (spec_here h x one)

  each_offer : (h : HostId) (t : Tag) (xs : List Extent) → AllByRecursion (IsOneRun c h) xs → AllByRecursion (λ x. x.tag ≡ t) xs →
      AllByRecursion (λ x. (cell : Cell) → offered_extent c h g cell x ≡ where_here (has_granule (run_of c h x) g) (offered_as h t (region_spec c (region_of c g))) cell) xs
  each_offer h t [] one is = tt
  each_offer h t (x ∷ xs) one is = (offer_step h t x one.0 is.0, each_offer h t xs one.1 is.1)

  pub cell_offer : (h : HostId) (t : Tag) (xs : List Extent) → AllByRecursion (IsOneRun c h) xs → AllByRecursion (λ x. x.tag ≡ t) xs → (cell : Cell) →
      cell_over c oldest runs g cell (Effect.Offer h xs ∷ []) ≡ where_here (in_extents c h xs g) (offered_as h t (region_spec c (region_of c g))) cell
  cell_offer h t xs one is cell =
      once_or_more (offered_as h t spec) (λ b. refl) (λ x. has_granule (run_of c h x) g) (offered_extent c h g) xs (each_offer h t xs one is) cell
      ∙ in_list h xs (offered_as h t spec) cell

  either_way : (run : Run) (of : RegionSpec) (cell : Cell) → (if of.shareable then cell else where_here (has_granule run g) settled cell) ≡ where_here (has_granule run g) (left_as of) cell
  either_way run of cell = by of.shareable (has_granule run g)
    where
      by : (shared here : Bool) → (if shared then cell else where_here here settled cell) ≡ where_here here (λ b. if shared then b else settled b) cell
      by true true = refl
      by true false = refl
      by false here = refl

  unoffer_step : (h : HostId) (x : Extent) → IsOneRun c h x → (cell : Cell) → unoffered_extent c h g cell x ≡ where_here (has_granule (run_of c h x) g) (left_as (region_spec c (region_of c g))) cell
  unoffer_step h x one cell =
      ap (unoffered_run c g cell) one.found
      ∙ either_way (run_of c h x) (region_spec c (region_of c (run_of c h x).first)) cell
      ∙ its_own left_as (region_spec c (region_of c (run_of c h x).first)) (region_spec c (region_of c g)) cell (has_granule (run_of c h x) g) (spec_here h x one)

  pub cell_unoffer : (h : HostId) (xs : List Extent) → AllByRecursion (IsOneRun c h) xs → (cell : Cell) →
      fold (unoffered_extent c h g) cell xs ≡ where_here (in_extents c h xs g) (left_as (region_spec c (region_of c g))) cell
  cell_unoffer h xs one cell =
      once_or_more (left_as spec) (left_twice spec) (λ x. has_granule (run_of c h x) g) (unoffered_extent c h g) xs
      (each-change (IsOneRun c h) (λ x. (b : Cell) → unoffered_extent c h g b x ≡ where_here (has_granule (run_of c h x) g) (left_as (region_spec c (region_of c g))) b) (unoffer_step h) xs one) cell
      ∙ in_list h xs (left_as spec) cell

  -- ---- what is taken

  take_step : (h : HostId) (x : Extent) → IsOneRun c h x → (cell : Cell) →
      cell_after c oldest runs g cell (Effect.Take h (run_of c h x)) ≡ where_here (has_granule (run_of c h x) g) (taken_as h (region_spec c (region_of c g))) cell
  take_step h x one cell = its_own (taken_as h) (region_spec c (region_of c (run_of c h x).first)) (region_spec c (region_of c g)) cell (has_granule (run_of c h x) g) (spec_here h x one)

  pub cell_takes : (h : HostId) (xs : List Extent) → AllByRecursion (IsOneRun c h) xs → (cell : Cell) →
      cell_over c oldest runs g cell (takes c h xs) ≡ where_here (in_extents c h xs g) (taken_as h (region_spec c (region_of c g))) cell
  cell_takes h xs one cell =
      over_map (λ x. Effect.Take h (run_of c h x)) (cell_after c oldest runs g) cell xs
      ∙ once_or_more (taken_as h spec) (taken_twice h spec) (λ x. has_granule (run_of c h x) g) (λ b x. cell_after c oldest runs g b (Effect.Take h (run_of c h x))) xs
      (each-change (IsOneRun c h) (λ x. (b : Cell) → cell_after c oldest runs g b (Effect.Take h (run_of c h x)) ≡ where_here (has_granule (run_of c h x) g) (taken_as h (region_spec c (region_of c g))) b) (take_step h) xs one) cell
      ∙ in_list h xs (taken_as h spec) cell

  -- ---- what leaves

  -- what an extent's removal makes of it
  abbrev removing_one : HostId → Bool → Cell → Extent → Cell
  removing_one h clean cell x = cell_over c oldest runs g cell (if clean then Effect.Leave h (run_of c h x) ∷ Effect.Soil (run_of c h x) ∷ [] else Effect.Leave h (run_of c h x) ∷ [])

  one_by_one : (h : HostId) (clean : Bool) (cell : Cell) (xs : List Extent) → cell_over c oldest runs g cell (removals c h clean xs) ≡ fold (removing_one h clean) cell xs
  one_by_one h clean cell [] = refl
  one_by_one h true cell (x ∷ xs) = one_by_one h true (removing_one h true cell x) xs
  one_by_one h false cell (x ∷ xs) = one_by_one h false (removing_one h false cell x) xs

  remove_step : (h : HostId) (clean : Bool) (x : Extent) → IsOneRun c h x → (cell : Cell) →
      removing_one h clean cell x ≡ where_here (has_granule (run_of c h x) g) (removed_as clean (region_spec c (region_of c g))) cell
  remove_step h true x one cell =
      left_soiled (has_granule (run_of c h x) g) (region_spec c (region_of c (run_of c h x).first)) cell
      ∙ its_own soiled_as (region_spec c (region_of c (run_of c h x).first)) (region_spec c (region_of c g)) cell (has_granule (run_of c h x) g) (spec_here h x one)
  remove_step h false x one cell = its_own left_as (region_spec c (region_of c (run_of c h x).first)) (region_spec c (region_of c g)) cell (has_granule (run_of c h x) g) (spec_here h x one)

  pub cell_removals : (h : HostId) (clean : Bool) (xs : List Extent) → AllByRecursion (IsOneRun c h) xs → (cell : Cell) →
      cell_over c oldest runs g cell (removals c h clean xs) ≡ where_here (in_extents c h xs g) (removed_as clean (region_spec c (region_of c g))) cell
  cell_removals h clean xs one cell =
      one_by_one h clean cell xs
      ∙ once_or_more (removed_as clean spec) (removed_twice clean spec) (λ x. has_granule (run_of c h x) g) (removing_one h clean) xs
      (each-change (IsOneRun c h) (λ x. (b : Cell) → removing_one h clean b x ≡ where_here (has_granule (run_of c h x) g) (removed_as clean (region_spec c (region_of c g))) b) (remove_step h clean) xs one) cell
      ∙ in_list h xs (removed_as clean spec) cell

  -- ---- what is zeroed

  pub cell_zeros : (zeroed_runs : List (ℕ × ℕ)) (cell : Cell) → cell_over c oldest runs g cell (zeros zeroed_runs) ≡ where_here (has_in_runs (map run_from zeroed_runs) g) zeroed cell
  cell_zeros rs cell =
      over_map (λ r. Effect.Zero (run_from r)) (cell_after c oldest runs g) cell rs
      ∙ once_or_more zeroed (λ b. refl) (λ r. has_granule (run_from r) g) (λ b r. cell_after c oldest runs g b (Effect.Zero (run_from r))) rs
      (each-all (λ r. (b : Cell) → cell_after c oldest runs g b (Effect.Zero (run_from r)) ≡ where_here (has_granule (run_from r) g) zeroed b) (λ r b. refl) rs) cell
      ∙ ap (λ b. where_here b zeroed cell) (sym (any-map (λ run. has_granule run g) run_from rs))

  -- ---- tags that end

  end_step : (t : Tag) (cell : Cell) → cell_after c oldest runs g cell (Effect.TagEnd t) ≡ where_here (has_in_runs (runs t) g) settled cell
  end_step t cell = once_or_more settled (λ b. refl) (λ run. has_granule run g) (ended_run g) (runs t)
      (each-all (λ run. (b : Cell) → ended_run g b run ≡ where_here (has_granule run g) settled b) (λ run b. refl) (runs t)) cell

  pub cell_ends : (over : List Tag) (cell : Cell) → cell_over c oldest runs g cell (ends over) ≡ where_here (list_any (λ t. has_in_runs (runs t) g) over) settled cell
  cell_ends over cell =
      over_map Effect.TagEnd (cell_after c oldest runs g) cell over
      ∙ once_or_more settled (λ b. refl) (λ t. has_in_runs (runs t) g) (λ b t. cell_after c oldest runs g b (Effect.TagEnd t)) over
      (each-all (λ t. (b : Cell) → cell_after c oldest runs g b (Effect.TagEnd t) ≡ where_here (has_in_runs (runs t) g) settled b) end_step over) cell
