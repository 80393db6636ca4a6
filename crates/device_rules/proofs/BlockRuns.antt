-- Runs of whole blocks of a region, and the extents that they are for a host.
use Rattle.std.proofs.Common.{◌≡◌, ℕ, suc, ◌+◌, ◌-◌, ◌*◌, ◌/◌, ◌%◌, ◌<◌, ◌≤◌, Bool, List, [], ◌∷◌, length, Option, Some, None, refl, ap, sym, subst, ◌∙◌, inl, inr, arith, leb, div-add-mod', mul-le-mul_right}
use Rattle.std.proofs.{Math.Nat.mul-mod_left, Math.Nat.mul_assoc, Math.Nat.zero-mul, lemmas.Bool.cases_Bool, lemmas.Bool.leb-true, lemmas.List.FromFn.length-range_with_len}
use Rattle.std.{proofs.lemmas.List.Sums.prefix_len-le-length, proofs.lemmas.Option.none-some, proofs.lemmas.Option.same_Some, specs.List.AllByRecursion, specs.List.range_with_len}
use Rattle.std.specs.Prelude.{option_map, option_to_list, take, if◌then◌else◌}
use Rattle.cci_codec.specs.dcd_base.specs.{declared.capacity.Extent.Extent, declared.capacity.Tag.Tag, declared.ids.HostId.HostId, declared.media.Run.Run, Words.has_granule, Words.zero_tag}
use Rattle.extent_list.specs.media_map.proofs.RunLemmas.{ends_within, range_back, run_fits, run_some}
use Rattle.extent_list.specs.media_map.specs.Places.{IsRun, bytes_of_run, extent_of, is_granular, run_of, start_of}
use Rattle.extent_list.specs.media_map.specs.region_config.{proofs.Faultless.granule_from, proofs.Faultless.granules_rise, proofs.GranuleLemmas.region_is, specs.Configurations.Configuration}
use Rattle.extent_list.specs.media_map.specs.region_config.specs.{Granules.base_of, Granules.first_granule, Granules.granule_size, Granules.region_granules, Granules.region_of, Soundness.IsSound}
use Rattle.granule_map.{proofs.Joining.lowest_found, specs.Blocks.block_count, specs.Blocks.run_of_blocks}
use Rattle.granule_map.specs.Choices.{joined, lowest_run, passing, run_from}
use Rattle.selection.proofs.Chosen.{NumbersBetween, PairsBetween, blocks_between, between_apart, filter_between, joined_between, take_between}
use Rattle.selection.specs.Selections.{AreApart, AreBetween, always_together, contiguous_runs, free_runs, granules_of_blocks, is_free_block}
use Rattle.device_rules.proofs.Homes.{made_begins, made_granular, made_long, made_run}
use Rattle.device_rules.{proofs.ListSteps.each-all, proofs.ListSteps.each-both, proofs.ListSteps.each-map, proofs.ListSteps.many, proofs.ListSteps.many-none, specs.Standing.IsMade}

-- granules of the region, some and made of pieces of that size
pub record IsBlockRun (c : Configuration) (size r : ℕ) (run : Run) : Type 0 where
  pub known : r < length c.regions
  pub some : 0 < run.count
  pub from : first_granule c r ≤ run.first
  pub to : run.first + run.count ≤ first_granule c (suc r)
  pub begins : (run.first - first_granule c r) * granule_size c r % size ≡ 0
  pub ends : run.count * granule_size c r % size ≡ 0

module _ (c : Configuration) (h : HostId) (s : IsSound c) (host : h < c.hosts) (size r : ℕ) (run : Run) (b : IsBlockRun c size r run) where
  at : region_of c run.first ≡ r
  at = region_is c run.first r b.known b.from (omega (arith, b.to, b.some))

  is : IsRun c run
  is = record {
    some = b.some;
    known = omega (arith, b.to, b.some, granules_rise c (suc r) (length c.regions) b.known);
    within = subst (λ k. run.first + run.count ≤ first_granule c (suc k)) (sym at) b.to;
  }

  starts : start_of c h run ≡ base_of c h r + (run.first - first_granule c r) * granule_size c r
  starts = rw at refl

  long : bytes_of_run c run ≡ run.count * granule_size c r
  long = rw at refl

  offset : start_of c h run - base_of c h r ≡ (run.first - first_granule c r) * granule_size c r
  offset = omega (arith, starts)

  -- the extent is made of such pieces too
  pub extent_made : (t : Tag) (n : ℕ) → IsMade c size h r (extent_of c h run t n)
  extent_made t n = record {
    known = b.known;
    some = omega (arith, long, mul-le-mul_right (granule_size c r) b.some, granule_from c r (s.each r b.known));
    from = omega (arith, starts);
    within = ends_within c h s host run r b.known at b.from is;
    begins = ap (λ m. m % size) offset ∙ b.begins;
    ends = ap (λ m. m % size) long ∙ b.ends;
  }

  -- and its run is the run
  pub extent_run : (t : Tag) (n : ℕ) → run_of c h (extent_of c h run t n) ≡ run
  extent_run t n = elim (cases_Bool (is_granular c h (start_of c h run) (bytes_of_run c run))) [
    | inl holds ↦ same_Some _ _ (sym (ap (λ t. if t then Some (run_of c h (extent_of c h run zero_tag 0)) else None) holds) ∙ range_back c h s host run r b.known at b.from is)
    | inr fails ↦ absurd (none-some run (sym (ap (λ t. if t then Some (run_of c h (extent_of c h run zero_tag 0)) else None) fails) ∙ range_back c h s host run r b.known at b.from is))
  ]

-- the run of what is made of pieces is a run of them
pub block_run : (c : Configuration) (h : HostId) (s : IsSound c) (host : h < c.hosts) (size r : ℕ) (x : Extent) → size % granule_size c r ≡ 0 → IsMade c size h r x → IsBlockRun c size r (run_of c h x)
block_run c h s host size r x whole m =
    let gs : ℕ = granule_size c r in
    let q : ℕ = (x.start - base_of c h r) / gs in
    let n : ℕ = x.length / gs in
    let g = made_granular c h s host size r x whole m in
    let back : first_granule c r + q - first_granule c r ≡ q = omega arith in
    subst (IsBlockRun c size r) (sym (made_run c h s host size r x whole m)) (record {
      known = m.known;
      some = run_some c h s host x.start x.length r m.known g;
      from = omega arith;
      to = omega (arith, run_fits c h s host x.start x.length r m.known g);
      begins = ap (λ k. k * gs % size) back ∙ ap (λ k. k % size) (made_begins c h s host size r x whole m) ∙ m.begins;
      ends = ap (λ k. k % size) (made_long c h s host size r x whole m) ∙ m.ends;
    })

-- ---- the runs that are chosen

-- runs that lie apart have a granule once
pub apart_count : (runs : List Run) → AreApart runs → (g : ℕ) → many (λ run. has_granule run g) runs ≤ 1
apart_count [] apart g = omega arith
apart_count (run ∷ runs) apart g = elim (cases_Bool (has_granule run g)) [
  | inr other ↦ rw other (apart_count runs apart.1 g)
  | inl here ↦ rw here (omega (arith, many-none (λ other. has_granule other g) runs (apart.0 g here)))
]

-- in a range, and some
record IsWithin (from to : ℕ) (run : Run) : Type 0 where
  low : from ≤ run.first
  some : 0 < run.count
  high : run.first + run.count ≤ to

ends_at : (from to : ℕ) (runs : List Run) → AreBetween from to runs → from ≤ to
ends_at from to [] rises = rises
ends_at from to (run ∷ runs) rises = omega (arith, rises.0, ends_at (run.first + run.count) to runs rises.2)

each_within : (less from to : ℕ) (runs : List Run) → less ≤ from → AreBetween from to runs → AllByRecursion (IsWithin less to) runs
each_within less from to [] low rises = tt
each_within less from to (run ∷ runs) low rises = (
  record { low = omega (arith, low, rises.0); some = rises.1; high = ends_at (run.first + run.count) to runs rises.2 },
  each_within less (run.first + run.count) to runs (omega (arith, low, rises.0)) rises.2,
)

module _ (c : Configuration) (size r : ℕ) (known : r < length c.regions) (free : ℕ → Bool) (area : Run) (per : ℕ)
    (first : area.first ≡ first_granule c r) (count : area.count ≡ region_granules c r) (some : 0 < per) (block : per * granule_size c r ≡ size) where
  -- the last block ends with the region or before
  last_block : area.first + block_count area per * per ≤ first_granule c (suc r)
  last_block = omega (arith, first, count, div-add-mod' area.count per)

  record IsWhole (run : Run) : Type 0 where
    begins : (run.first - first_granule c r) * granule_size c r % size ≡ 0
    ends : run.count * granule_size c r % size ≡ 0

  of_blocks : (k n : ℕ) → IsWhole (run_of_blocks area per n k)
  of_blocks k n =
      let gs : ℕ = granule_size c r in
      let back : area.first + k * per - first_granule c r ≡ k * per = omega (arith, first) in
      let times : (m : ℕ) → m * per * gs % size ≡ 0 = λ m. ap (λ j. j % size) (mul_assoc m per gs ∙ ap (λ j. m * j) block) ∙ mul-mod_left m size in
      record { begins = ap (λ j. j * gs % size) back ∙ times k; ends = times n }

  block_run_from : (run : Run) → IsWhole run → IsWithin area.first (area.first + block_count area per * per) run → IsBlockRun c size r run
  block_run_from run w i = record {
    known = known;
    some = i.some;
    from = omega (arith, i.low, first);
    to = omega (arith, i.high, last_block);
    begins = w.begins;
    ends = w.ends;
  }

  begins_at : area.first + 0 * per ≡ area.first
  begins_at = omega (arith, zero-mul per)

  -- the lowest free blocks
  pairs : (need : ℕ) → PairsBetween 0 (block_count area per) (joined always_together (take need (passing (is_free_block free area per) (block_count area per))))
  pairs need =
      let n : ℕ = block_count area per in
      let test : ℕ → Bool = is_free_block free area per in
      let end : 0 + block_count area per ≡ block_count area per = omega arith in
      joined_between always_together 0 n (take need (passing test n)) (take_between 0 n need (passing test n) (subst (λ m. NumbersBetween 0 m (passing test n)) end (filter_between test 0 n)))

  free_rise : (need : ℕ) → AreBetween area.first (area.first + block_count area per * per) (free_runs free area per need)
  free_rise need =
      let n : ℕ = block_count area per in
      let chosen : List (ℕ × ℕ) = joined always_together (take need (passing (is_free_block free area per) n)) in
      subst (λ m. AreBetween m (area.first + n * per) (free_runs free area per need)) begins_at (blocks_between free area per some 0 n chosen (pairs need))

  pub free_block_runs : (need : ℕ) → AllByRecursion (IsBlockRun c size r) (free_runs free area per need)
  free_block_runs need =
      let n : ℕ = block_count area per in
      let chosen : List (ℕ × ℕ) = joined always_together (take need (passing (is_free_block free area per) n)) in
      each-both IsWhole (IsWithin area.first (area.first + n * per)) (IsBlockRun c size r) block_run_from (free_runs free area per need)
      (each-map (λ _. Unit {0}) IsWhole (granules_of_blocks area per) (λ blocks _. of_blocks blocks.0 blocks.1) chosen (each-all (λ _. Unit {0}) (λ _. tt) chosen))
      (each_within area.first area.first (area.first + n * per) (free_runs free area per need) (omega arith) (free_rise need))

  pub free_apart : (need : ℕ) → AreApart (free_runs free area per need)
  free_apart need = between_apart area.first (area.first + block_count area per * per) (free_runs free area per need) (free_rise need)

  -- the lowest run of free blocks
  one_rises : (need : ℕ) → 0 < need → (found : Option ℕ) → lowest_run (is_free_block free area per) (block_count area per) need ≡ found
      → AreBetween area.first (area.first + block_count area per * per) (option_to_list (option_map (run_of_blocks area per need) found))
  one_rises need many_ None e = omega arith
  one_rises need many_ (Some k) e =
      let n : ℕ = block_count area per in
      let test : ℕ → Bool = is_free_block free area per in
      let low = lowest_found (λ j. leb need (run_from test n j)) 0 n k e in
      let enough = leb-true need (run_from test n k) low.passes in
      let fits : k + need ≤ n = omega (arith, enough, low.below, prefix_len-le-length test (range_with_len k (n - k)), length-range_with_len k (n - k)) in
      let one : PairsBetween 0 n ((k, need) ∷ []) = (omega arith, many_, fits) in
      subst (λ m. AreBetween m (area.first + n * per) (run_of_blocks area per need k ∷ [])) begins_at (blocks_between free area per some 0 n ((k, need) ∷ []) one)

  one_whole : (need : ℕ) (found : Option ℕ) → AllByRecursion IsWhole (option_to_list (option_map (run_of_blocks area per need) found))
  one_whole need None = tt
  one_whole need (Some k) = (of_blocks k need, tt)

  contiguous_rise : (need : ℕ) → 0 < need → AreBetween area.first (area.first + block_count area per * per) (contiguous_runs free area per need)
  contiguous_rise need many_ = one_rises need many_ (lowest_run (is_free_block free area per) (block_count area per) need) refl

  pub contiguous_block_runs : (need : ℕ) → 0 < need → AllByRecursion (IsBlockRun c size r) (contiguous_runs free area per need)
  contiguous_block_runs need many_ =
      each-both IsWhole (IsWithin area.first (area.first + block_count area per * per)) (IsBlockRun c size r) block_run_from (contiguous_runs free area per need)
      (one_whole need (lowest_run (is_free_block free area per) (block_count area per) need))
      (each_within area.first area.first (area.first + block_count area per * per) (contiguous_runs free area per need) (omega arith) (contiguous_rise need many_))

  pub contiguous_apart : (need : ℕ) → 0 < need → AreApart (contiguous_runs free area per need)
  contiguous_apart need many_ = between_apart area.first (area.first + block_count area per * per) (contiguous_runs free area per need) (contiguous_rise need many_)
