use Rattle.std.proofs.Common.{◌≡◌, ◌+◌, ◌-◌, ◌<◌, ◌≤◌, ◌∙◌, ℕ, Bool, min, ap, sym, suc, arith, length, List, Option, Some, None}
use Rattle.std.specs.List.{find, prefix_len, range_with_len}
use Rattle.granule_map.proofs.Joining.{IsFound, few, found_next, found_run, lowest_found, none_left}
use Rattle.granule_map.specs.{StateLists.dirty_from, StateLists.is_dirty_at, declared.states.GranuleState.GranuleState}
use Rattle.region_config.{proofs.GranuleLemmas.of_region, specs.Configurations.Configuration}
use Rattle.region_config.specs.Granules.{first_granule, granule_total, region_of, same_region}
use Rattle.sanitizer.{proofs.Regions.apart, proofs.Regions.together, specs.Turns.IsNextDirtyRun}
use Rattle.sanitizer.proofs.search.next_run.Goals as goal

-- the search of the states is one below the number of granules
search_is : (states : List GranuleState) (n from : ℕ) (o : Option ℕ) → length states ≡ n → o ≡ dirty_from states from → find (is_dirty_at states) (range_with_len from (n - from)) ≡ o
search_is states n from o long is = ap (λ m. find (is_dirty_at states) (range_with_len from (m - from))) (sym long) ∙ sym is

found_below : (p : ℕ → Bool) (from n first : ℕ) → find p (range_with_len from (n - from)) ≡ Some first → first < n
found_below p from n first found = let low = lowest_found p from (n - from) first found in omega (arith, low.from_below, low.below)

next_is : (c : Configuration) (p : ℕ → Bool) (from most first count : ℕ) → IsFound p (granule_total c) from most first (first_granule c (suc (region_of c first))) count
    → IsNextDirtyRun c p from most (record { first = first; count = count })
next_is c p from most first count f =
    let n : ℕ = granule_total c in
    let end : ℕ = first_granule c (suc (region_of c first)) in
    let run = found_run p n from most first end count f in
    let region = of_region c first (found_below p from n first f.lowest) in
    let reaches : first + count ≤ end = omega (arith, few p n from most first end count f, f.end_above) in
    record {
      runs = found_next p n from most first end count f (same_region c)
          (λ inner. apart c (region_of c first) region.known (omega (arith, region.from, region.to)) inner)
          (λ k low high. together c (region_of c first) region.known k (omega (arith, region.from, low)) high);
      later = omega (arith, run.from_below, run.some);
      few = run.enough;
      below = run.within;
      in_region = record { some = run.some; known = omega (arith, run.some, run.within); within = reaches };
    }

pub returns-in-None : goal.returns-in-None
returns-in-None c =
    none_left (is_dirty_at c.args.map.now.states) (granule_total c.args.config.now) c.args.from c.args.most
    (search_is c.args.map.now.states (granule_total c.args.config.now) c.args.from None c.requires (sym c.in-None.is ∙ c.next_dirty.ensures))

pub region_end-requires : goal.region_end-requires
region_end-requires c =
    found_below (is_dirty_at c.args.map.now.states) c.args.from (granule_total c.args.config.now) c.in-Some.first
    (search_is c.args.map.now.states (granule_total c.args.config.now) c.args.from (Some c.in-Some.first) c.requires (sym c.in-Some.is ∙ c.next_dirty.ensures))

pub returns-in-Some : goal.returns-in-Some
returns-in-Some c =
    let p = is_dirty_at c.args.map.now.states in
    let first = c.in-Some.first in
    let end = first_granule c.args.config.now (suc (region_of c.args.config.now c.in-Some.first)) in
    let reach : c.region_end.result ≡ first_granule c.args.config.now (suc (region_of c.args.config.now c.in-Some.first)) = c.region_end.ensures.value in
    let many : c.min.result ≡ min c.args.most (first_granule c.args.config.now (suc (region_of c.args.config.now c.in-Some.first)) - c.in-Some.first) =
    c.min.ensures ∙ ap (λ e. min c.args.most (e - first)) reach in
    next_is c.args.config.now p c.args.from c.args.most first c.dirty_from.result (record {
      lowest = search_is c.args.map.now.states (granule_total c.args.config.now) c.args.from (Some c.in-Some.first) c.requires (sym c.in-Some.is ∙ c.next_dirty.ensures);
      some = omega (arith, c.if-most-eq0.false);
      end_above = omega (arith, c.region_end.ensures.above, reach);
      end_within = omega (arith, c.region_end.ensures.within, reach);
      count = c.dirty_from.ensures.count ∙ ap (λ m. prefix_len p (range_with_len first m)) many;
    })
