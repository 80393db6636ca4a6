-- What a 5604h that breaks no rule offers: extents of present blocks of one region, of free granules or of those of an open tag.
use Rattle.std.proofs.Common.{◌≡◌, ℕ, zero, suc, ◌+◌, ◌*◌, ◌/◌, ◌%◌, ◌<◌, ◌≤◌, Bool, true, List, [], ◌∷◌, length, map, Option, Some, None, refl, ap, sym, subst, ◌∙◌, inl, inr, arith, leb, ltb, div-add-mod', zero-mul}
use Rattle.std.proofs.lemmas.{Bool.and_parts, Bool.cases_Bool, Bool.cases_eq, Bool.cases_lt, Bool.false≢true, Bool.leb-true, Bool.ltb-true, List.length-map}
use Rattle.std.specs.{List.AllByRecursion, List.enumerate_from, List.list_all, List.range_with_len, Prelude.if◌then◌else◌, Prelude.option_map, Prelude.option_to_list}
use Rattle.cci_codec.specs.dcd_base.specs.{Words.◌or◌, Words.has_granule, Words.has_in_runs, Words.is_empty, Words.zero_tag, declared.capacity.Extent.Extent, declared.capacity.Tag.Tag}
use Rattle.cci_codec.specs.dcd_base.specs.declared.{ids.HostId.HostId, media.Run.Run}
use Rattle.extent_list.specs.{Listing.too_many_listed, dcd_codes.specs.Rules.◌breaks◌, dcd_codes.specs.Rules.each_in, dcd_codes.specs.declared.rules.Rule.Rule}
use Rattle.extent_list.specs.media_map.specs.Places.{extent_of, region_at, run_of}
use Rattle.extent_list.specs.media_map.specs.region_config.{proofs.PresentBlocks.granules_in-with_blocks, proofs.PresentBlocks.region_spec-with_blocks, specs.Configurations.Configuration}
use Rattle.extent_list.specs.media_map.specs.region_config.specs.Granules.{first_granule, granule_size, region_granules, is_supported, region_spec, with_blocks}
use Rattle.extent_list.specs.media_map.specs.region_config.specs.Soundness.{IsSound}
use Rattle.granule_map.{specs.Blocks.block_count, specs.Blocks.run_of_blocks, specs.Choices.lowest_run, proofs.RunSteps.below_from_none}
use Rattle.selection.proofs.{Chosen.contiguous_are_free, Chosen.free_are_free, Chosen.free_some, Prescribed.kept, Prescribed.neither}
use Rattle.selection.specs.Selections.{all_free, are_free, contiguous_runs, free_extent_rule, free_runs, is_free_block, prescribed_rule}
use Rattle.device_rules.proofs.BlockRuns.{IsBlockRun, apart_count, contiguous_apart, contiguous_block_runs, extent_made, extent_run, free_apart, free_block_runs}
use Rattle.device_rules.proofs.Homes.{extent_same, first_same, made_region, placed_made, run_same, size_same, supported_some, supported_whole}
use Rattle.device_rules.proofs.{ListSteps.any-map, ListSteps.each-change, ListSteps.each-map, ListSteps.many, ListSteps.many-map, OneOffer.reaches}
use Rattle.device_rules.proofs.Overlaps.{Spread, not_broken, row_each, row_spread, spread_once}
use Rattle.device_rules.specs.Adding.{area_of, extents_of, per_block, with_tag, region_free_blocks as blocks_free, region_longest_free as blocks_together}
use Rattle.device_rules.specs.{Pictures.count_on, Standing.IsMade}

-- ---- with tag and sequence

-- each with the tag, numbered from n
abbrev pub marked_from : Bool → Tag → ℕ → List Extent → List Extent
marked_from shareable tag n xs = map (λ x. record x.1 { tag = tag; sequence = if shareable then x.0 else 0 }) (enumerate_from n xs)

module _ (shareable : Bool) (tag : Tag) where
  pub marked_each : (P : Extent → Type 0) → ((x : Extent) (m : ℕ) → P x → P (record x { tag = tag; sequence = m })) → (n : ℕ) (xs : List Extent) → AllByRecursion P xs → AllByRecursion P (marked_from shareable tag n xs)
  marked_each P step n [] a = tt
  marked_each P step n (x ∷ xs) a = (step x (if shareable then n else 0) a.0, marked_each P step (n + 1) xs a.1)

  pub marked_tags : (n : ℕ) (xs : List Extent) → AllByRecursion (λ x. x.tag ≡ tag) (marked_from shareable tag n xs)
  marked_tags n [] = tt
  marked_tags n (x ∷ xs) = (refl, marked_tags (n + 1) xs)

  pub marked_runs : (c : Configuration) (h : HostId) (n : ℕ) (xs : List Extent) → map (run_of c h) (marked_from shareable tag n xs) ≡ map (run_of c h) xs
  marked_runs c h n [] = refl
  marked_runs c h n (x ∷ xs) = ap (λ runs. run_of c h x ∷ runs) (marked_runs c h (n + 1) xs)

  pub marked_length : (n : ℕ) (xs : List Extent) → length (marked_from shareable tag n xs) ≡ length xs
  marked_length n [] = refl
  marked_length n (x ∷ xs) = ap suc (marked_length (n + 1) xs)

-- what is counted is counted of runs
pub count_runs : (c : Configuration) (h : HostId) (g : ℕ) (xs : List Extent) → many (λ run. has_granule run g) (map (run_of c h) xs) ≡ count_on c h g xs
count_runs c h g xs = many-map (λ run. has_granule run g) (run_of c h) xs

pub reach_runs : (c : Configuration) (h : HostId) (g : ℕ) (xs : List Extent) → has_in_runs (map (run_of c h) xs) g ≡ reaches c h xs g
reach_runs c h g xs = any-map (λ run. has_granule run g) (run_of c h) xs

-- ---- what is chosen

-- extents of present blocks of the region, some, of which no two share a granule
pub record IsChosen (c : Configuration) (size : ℕ) (h : HostId) (r : ℕ) (xs : List Extent) : Type 0 where
  pub made : AllByRecursion (IsMade c size h r) xs
  pub apart : (g : ℕ) → count_on c h g xs ≤ 1
  pub some : 0 < length xs

pub made_marked : (c : Configuration) (size : ℕ) (h : HostId) (r : ℕ) (x : Extent) (t : Tag) (m : ℕ) → IsMade c size h r x → IsMade c size h r (record x { tag = t; sequence = m })
made_marked c size h r x t m a = record { known = a.known; some = a.some; from = a.from; within = a.within; begins = a.begins; ends = a.ends }

pub marked_chosen : (c : Configuration) (size : ℕ) (h : HostId) (r : ℕ) (shareable : Bool) (t : Tag) (xs : List Extent) → IsChosen c size h r xs → IsChosen c size h r (with_tag shareable t xs)
marked_chosen c size h r shareable t xs a = record {
  made = marked_each shareable t (IsMade c size h r) (λ x m b. made_marked c size h r x t m b) 1 xs a.made;
  apart = λ g. omega (arith, a.apart g, count_runs c h g xs, count_runs c h g (with_tag shareable t xs), ap (many (λ run. has_granule run g)) (marked_runs shareable t c h 1 xs));
  some = omega (arith, a.some, marked_length shareable t 1 xs);
}

-- a free run has free granules
range_at : (p : ℕ → Bool) (a n k : ℕ) → list_all p (range_with_len a n) ≡ true → a ≤ k → k < a + n → p k ≡ true
range_at p a zero k all low high = absurd (omega (arith, low, high))
range_at p a (suc n) k all low high =
    let parts = and_parts (p a) (list_all p (range_with_len (a + 1) n)) all in
    elim (cases_lt a k) [
      | inl later ↦ range_at p (a + 1) n k parts.1 (omega (arith, later)) (omega (arith, high))
      | inr first ↦ (let same : k ≡ a = omega (arith, low, first) in ap p same ∙ parts.0)
    ]

pub run_free : (free : ℕ → Bool) (run : Run) (g : ℕ) → all_free free run ≡ true → has_granule run g ≡ true → free g ≡ true
run_free free run g all has =
    let parts = and_parts (leb run.first g) (ltb g (run.first + run.count)) has in
    range_at free run.first run.count g all (leb-true _ _ parts.0) (ltb-true _ _ parts.1)

pub runs_free : (free : ℕ → Bool) (runs : List Run) (g : ℕ) → are_free free runs ≡ true → has_in_runs runs g ≡ true → free g ≡ true
runs_free free [] g all has = absurd (false≢true has)
runs_free free (run ∷ runs) g all has =
    let parts = and_parts (all_free free run) (are_free free runs) all in
    elim (cases_Bool (has_granule run g)) [
      | inl here ↦ run_free free run g parts.0 here
      | inr other ↦ runs_free free runs g parts.1 (rw other at has)
    ]

module _ (c : Configuration) (sound : IsSound c) (b : ℕ → ℕ) (h : HostId) (host : h < c.hosts) (r : ℕ) (known : r < length c.regions) (supported : (k : ℕ) → k < length c.regions → is_supported (region_spec c k) (b k) ≡ true) where
  -- runs of blocks, as extents
  extents_are : (runs : List Run) → extents_of (with_blocks c b) h runs ≡ map (λ run. extent_of c h run zero_tag 0) runs
  extents_are runs = λ i. map (λ run. extent_same c b h run zero_tag 0 i) runs

  pub runs_back : (runs : List Run) → AllByRecursion (IsBlockRun c (b r) r) runs → map (run_of c h) (extents_of (with_blocks c b) h runs) ≡ runs
  runs_back runs blocks = ap (map (run_of c h)) (extents_are runs) ∙ each_back runs blocks
    where
      each_back : (runs : List Run) → AllByRecursion (IsBlockRun c (b r) r) runs → map (run_of c h) (map (λ run. extent_of c h run zero_tag 0) runs) ≡ runs
      each_back [] blocks = refl
      each_back (run ∷ runs) blocks = λ i. extent_run c h sound host (b r) r run blocks.0 zero_tag 0 i ∷ each_back runs blocks.1 i

  pub runs_chosen : (runs : List Run) → AllByRecursion (IsBlockRun c (b r) r) runs → ((g : ℕ) → many (λ run. has_granule run g) runs ≤ 1) → 0 < length runs → IsChosen c (b r) h r (extents_of (with_blocks c b) h runs)
  runs_chosen runs blocks apart some = record {
    made = subst (AllByRecursion (IsMade c (b r) h r)) (sym (extents_are runs))
        (each-map (IsBlockRun c (b r) r) (IsMade c (b r) h r) (λ run. extent_of c h run zero_tag 0) (λ run a. extent_made c h sound host (b r) r run a zero_tag 0) runs blocks);
    apart = λ g. omega (arith, apart g, count_runs c h g (extents_of (with_blocks c b) h runs), ap (many (λ run. has_granule run g)) (runs_back runs blocks));
    some = omega (arith, some, length-map runs (λ run. extent_of (with_blocks c b) h run zero_tag 0));
  }

  -- the area of the region in the configuration of the present blocks
  area_first : (area_of (with_blocks c b) r).first ≡ first_granule c r
  area_first = first_same c b r

  area_count : (area_of (with_blocks c b) r).count ≡ region_granules c r
  area_count = granules_in-with_blocks c b r

  block_is : (region_spec (with_blocks c b) r).block ≡ b r
  block_is = ap (λ spec. spec.block) (region_spec-with_blocks c b r known)

  block_whole : b r % granule_size c r ≡ 0
  block_whole = supported_whole c r (b r) (supported r known)

  block_some : 0 < b r
  block_some = supported_some c r (b r) (supported r known)

  per_is : per_block (with_blocks c b) r ≡ b r / granule_size c r
  per_is = λ i. block_is i / size_same c b r i

  per_bytes : per_block (with_blocks c b) r * granule_size c r ≡ b r
  per_bytes = ap (λ n. n * granule_size c r) per_is ∙ omega (arith, div-add-mod' (b r) (granule_size c r), block_whole)

  per_some : 0 < per_block (with_blocks c b) r
  per_some = elim (cases_eq (per_block (with_blocks c b) r) 0) [
    | inl nothing ↦ absurd (omega (arith, per_bytes, ap (λ n. n * granule_size c r) nothing, zero-mul (granule_size c r), block_some))
    | inr some ↦ omega (arith, some)
  ]

  module _ (free : ℕ → Bool) where
    -- what the policies Free and Contiguous choose
    pub free_chosen : (need : ℕ) → 0 < need → need ≤ blocks_free (with_blocks c b) free r → IsChosen c (b r) h r (extents_of (with_blocks c b) h (free_runs free (area_of (with_blocks c b) r) (per_block (with_blocks c b) r) need))
    free_chosen need some enough =
        let area : Run = area_of (with_blocks c b) r in
        let per : ℕ = per_block (with_blocks c b) r in
        let runs : List Run = free_runs free area per need in
        runs_chosen runs (free_block_runs c (b r) r known free area per area_first area_count per_some per_bytes need)
        (apart_count runs (free_apart c (b r) r known free area per area_first area_count per_some per_bytes need))
        (free_some free area per need some enough)

    pub free_reached : (need g : ℕ) → reaches c h (extents_of (with_blocks c b) h (free_runs free (area_of (with_blocks c b) r) (per_block (with_blocks c b) r) need)) g ≡ true → free g ≡ true
    free_reached need g has =
        let area : Run = area_of (with_blocks c b) r in
        let per : ℕ = per_block (with_blocks c b) r in
        let runs : List Run = free_runs free area per need in
        let back = runs_back runs (free_block_runs c (b r) r known free area per area_first area_count per_some per_bytes need) in
        runs_free free runs g (free_are_free free area per need) (sym (sym (reach_runs c h g (extents_of (with_blocks c b) h runs)) ∙ ap (λ rs. has_in_runs rs g) back) ∙ has)

    some_found : (need : ℕ) (run_at : ℕ → Run) (found : Option ℕ) → (found ≡ None → ⊥) → 0 < length (option_to_list (option_map run_at found))
    some_found need run_at None lost = absurd (lost refl)
    some_found need run_at (Some k) lost = omega arith

    pub contiguous_chosen : (need : ℕ) → 0 < need → need ≤ blocks_together (with_blocks c b) free r → IsChosen c (b r) h r (extents_of (with_blocks c b) h (contiguous_runs free (area_of (with_blocks c b) r) (per_block (with_blocks c b) r) need))
    contiguous_chosen need some enough =
        let area : Run = area_of (with_blocks c b) r in
        let per : ℕ = per_block (with_blocks c b) r in
        let runs : List Run = contiguous_runs free area per need in
        let test : ℕ → Bool = is_free_block free area per in
        runs_chosen runs (contiguous_block_runs c (b r) r known free area per area_first area_count per_some per_bytes need some)
        (apart_count runs (contiguous_apart c (b r) r known free area per area_first area_count per_some per_bytes need some))
        (some_found need (run_of_blocks area per need) (lowest_run test (block_count area per) need)
        (λ lost. absurd (omega (arith, enough, below_from_none test (block_count area per) need some lost))))

    pub contiguous_reached : (need g : ℕ) → 0 < need → reaches c h (extents_of (with_blocks c b) h (contiguous_runs free (area_of (with_blocks c b) r) (per_block (with_blocks c b) r) need)) g ≡ true → free g ≡ true
    contiguous_reached need g some has =
        let area : Run = area_of (with_blocks c b) r in
        let per : ℕ = per_block (with_blocks c b) r in
        let runs : List Run = contiguous_runs free area per need in
        let back = runs_back runs (contiguous_block_runs c (b r) r known free area per area_first area_count per_some per_bytes need some) in
        runs_free free runs g (contiguous_are_free free area per need) (sym (sym (reach_runs c h g (extents_of (with_blocks c b) h runs)) ∙ ap (λ rs. has_in_runs rs g) back) ∙ has)

    -- Prescriptive: the list itself
    abbrev IsPrescribed : Extent → Type 0
    IsPrescribed x = IsMade c (b r) h r x × (all_free free (run_of c h x) ≡ true)

    prescribed_each : (before : List Extent) (x : Extent) → free_extent_rule (with_blocks c b) h free r before x ≡ None → IsPrescribed x
    prescribed_each before x e = let k = kept (with_blocks c b) h free r before x e in
        (placed_made c b h r x k.place, ap (all_free free) (sym (run_same c b h x)) ∙ k.is_free)

    not_empty : (list : List Extent) (rule : Rule) → (is_empty list breaks rule) ≡ None → 0 < length list
    not_empty [] rule e = absurd (false≢true (sym (not_broken true rule e)))
    not_empty (x ∷ xs) rule e = omega arith

    reached_free : (list : List Extent) (g : ℕ) → AllByRecursion IsPrescribed list → reaches c h list g ≡ true → free g ≡ true
    reached_free [] g each has = absurd (false≢true has)
    reached_free (x ∷ list) g each has = elim (cases_Bool (has_granule (run_of c h x) g)) [
      | inl here ↦ run_free free (run_of c h x) g each.0.1 here
      | inr other ↦ reached_free list g each.1 (rw other at has)
    ]

    module _ (list : List Extent) (row : prescribed_rule (with_blocks c b) h free r list ≡ None) where
      last : ((is_empty list breaks Rule.EmptyList or too_many_listed list) ≡ None) × (each_in list (free_extent_rule (with_blocks c b) h free r) ≡ None)
      last = neither (is_empty list breaks Rule.EmptyList or too_many_listed list) (each_in list (free_extent_rule (with_blocks c b) h free r)) row

      each_one : AllByRecursion IsPrescribed list
      each_one = row_each (free_extent_rule (with_blocks c b) h free r) IsPrescribed prescribed_each [] list last.1

      pub prescribed_reached : (g : ℕ) → reaches c h list g ≡ true → free g ≡ true
      prescribed_reached g has = reached_free list g each_one has

      all_whole : (k : ℕ) → k < length c.regions → b k % granule_size c k ≡ 0
      all_whole k within = supported_whole c k (b k) (supported k within)

      at_home : (x : Extent) → IsPrescribed x → IsMade c (b (region_at c h x.start)) h (region_at c h x.start) x
      at_home x a = subst (λ k. IsMade c (b k) h k x) (sym (made_region c h sound host (b r) r x block_whole a.0)) a.0

      spread : Spread [] list
      spread = row_spread (free_extent_rule (with_blocks c b) h free r) (λ before x e. (kept (with_blocks c b) h free r before x e).no_overlap) [] list last.1

      pub prescribed_chosen : IsChosen c (b r) h r list
      prescribed_chosen = record {
        made = each-change IsPrescribed (IsMade c (b r) h r) (λ x a. a.0) list each_one;
        apart = λ g. spread_once c h sound host b all_whole [] list (each-change IsPrescribed (λ x. IsMade c (b (region_at c h x.start)) h (region_at c h x.start) x) at_home list each_one) spread g;
        some = not_empty list Rule.EmptyList (neither (is_empty list breaks Rule.EmptyList) (too_many_listed list) last.0).0;
      }
