-- Free blocks as they are chosen: by what is kept, and as runs of the device.
use Rattle.std.proofs.Common.{◌≡◌, ℕ, zero, suc, ◌+◌, ◌%◌, ◌/◌, ◌<◌, ◌≤◌, true, false, not, ◌==◌, ◌||◌, List, [], ◌∷◌, length, Result, Ok, IfOk, sym, ap, subst, ◌∙◌, arith}
use Rattle.std.specs.Prelude.{All, if◌then◌else◌}
use Rattle.event_records.specs.dcd_base.specs.{Words.◌or◌, declared.media.Run.Run}
use Rattle.extent_list.specs.dcd_codes.specs.{Rules.◌breaks◌, Rules.ByRow, declared.refusals.Refusal.Refusal, declared.rules.Rule.Rule}
use Rattle.extent_list.specs.media_map.specs.{Places.IsRun, region_config.proofs.Faultless.granules_within, region_config.proofs.GranuleLemmas.region_is}
use Rattle.extent_list.specs.media_map.specs.region_config.specs.{Configurations.Configuration, Granules.first_granule, Granules.region_granules, Granules.region_of, Granules.region_spec}
use Rattle.selection.specs.Selections.{AreBetween, contiguous_runs, free_runs, too_few_free}
use Rattle.selection.specs.granule_map.specs.{Blocks.free_block_count, Blocks.longest_free_run, StateLists.is_free_at, declared.states.GranuleState.GranuleState}
use Rattle.device_state.specs.declared.state.State.{State}
use Rattle.device_state.specs.device_rules.specs.Adding.{area_of, by_length_rule, region_free_blocks, region_longest_free, per_block}
use Rattle.manager_commands.specs.InitiateDynamicCapacityAdd.{block_runs, by_length_runs}

module _ (s : State) (r need per : ℕ) (states : List GranuleState) (area : Run) (result : Result (List Run) Refusal)
    (states_are : states ≡ s.granules.states) (area_is : area ≡ area_of s.present r) (per_is : per ≡ per_block s.present r) where
  pub found_free : (policy : ℕ) → (policy == 0) ≡ true → ByRow (too_few_free need (free_block_count states area per)) (λ runs. runs ≡ free_runs (is_free_at states) area per need) result →
      ByRow (too_few_free need (if policy == 0 then region_free_blocks s.present (is_free_at s.granules.states) r else region_longest_free s.present (is_free_at s.granules.states) r)) (λ runs. runs ≡ block_runs s policy r need) result
  found_free policy is row =
      subst (λ b. ByRow (too_few_free need (if b then region_free_blocks s.present (is_free_at s.granules.states) r else region_longest_free s.present (is_free_at s.granules.states) r))
      (λ runs. runs ≡ (if b then free_runs (is_free_at s.granules.states) (area_of s.present r) (per_block s.present r) need else contiguous_runs (is_free_at s.granules.states) (area_of s.present r) (per_block s.present r) need)) result) (sym is)
      (subst (λ ss. ByRow (too_few_free need (free_block_count ss (area_of s.present r) (per_block s.present r))) (λ runs. runs ≡ free_runs (is_free_at ss) (area_of s.present r) (per_block s.present r) need) result) states_are
      (subst (λ n. ByRow (too_few_free need (free_block_count states (area_of s.present r) n)) (λ runs. runs ≡ free_runs (is_free_at states) (area_of s.present r) n need) result) per_is
      (subst (λ a. ByRow (too_few_free need (free_block_count states a per)) (λ runs. runs ≡ free_runs (is_free_at states) a per need) result) area_is row)))

  pub found_together : (policy : ℕ) → (policy == 0) ≡ false → ByRow (too_few_free need (longest_free_run states area per)) (λ runs. runs ≡ contiguous_runs (is_free_at states) area per need) result →
      ByRow (too_few_free need (if policy == 0 then region_free_blocks s.present (is_free_at s.granules.states) r else region_longest_free s.present (is_free_at s.granules.states) r)) (λ runs. runs ≡ block_runs s policy r need) result
  found_together policy is row =
      subst (λ b. ByRow (too_few_free need (if b then region_free_blocks s.present (is_free_at s.granules.states) r else region_longest_free s.present (is_free_at s.granules.states) r))
      (λ runs. runs ≡ (if b then free_runs (is_free_at s.granules.states) (area_of s.present r) (per_block s.present r) need else contiguous_runs (is_free_at s.granules.states) (area_of s.present r) (per_block s.present r) need)) result) (sym is)
      (subst (λ ss. ByRow (too_few_free need (longest_free_run ss (area_of s.present r) (per_block s.present r))) (λ runs. runs ≡ contiguous_runs (is_free_at ss) (area_of s.present r) (per_block s.present r) need) result) states_are
      (subst (λ n. ByRow (too_few_free need (longest_free_run states (area_of s.present r) n)) (λ runs. runs ≡ contiguous_runs (is_free_at states) (area_of s.present r) n need) result) per_is
      (subst (λ a. ByRow (too_few_free need (longest_free_run states a per)) (λ runs. runs ≡ contiguous_runs (is_free_at states) a per need) result) area_is row)))

-- the length is made of blocks
pub of_length : (s : State) (policy r bytes block : ℕ) (result : Result (List Run) Refusal) → block ≡ (region_spec s.present r).block → ((bytes == 0) || not (bytes % block == 0)) ≡ false →
    ByRow (too_few_free (bytes / block) (if policy == 0 then region_free_blocks s.present (is_free_at s.granules.states) r else region_longest_free s.present (is_free_at s.granules.states) r)) (λ runs. runs ≡ block_runs s policy r (bytes / block)) result →
    ByRow (by_length_rule s.present (is_free_at s.granules.states) r policy bytes) (λ runs. runs ≡ by_length_runs s policy r bytes) result
of_length s policy r bytes block result is whole row =
    let at : ((bytes == 0) || not (bytes % (region_spec s.present r).block == 0)) ≡ false = ap (λ n. (bytes == 0) || not (bytes % n == 0)) (sym is) ∙ whole in
    subst (λ b. ByRow ((b breaks Rule.BadLength bytes) or too_few_free (bytes / (region_spec s.present r).block) (if policy == 0 then region_free_blocks s.present (is_free_at s.granules.states) r else region_longest_free s.present (is_free_at s.granules.states) r)) (λ runs. runs ≡ by_length_runs s policy r bytes) result) (sym at)
    (subst (λ n. ByRow (too_few_free (bytes / n) (if policy == 0 then region_free_blocks s.present (is_free_at s.granules.states) r else region_longest_free s.present (is_free_at s.granules.states) r)) (λ runs. runs ≡ block_runs s policy r (bytes / n)) result) is row)

-- The runs lie in the region.
abbrev pub LieInRegion : Configuration → ℕ → List Run → Type 0
LieInRegion c r runs = AreBetween (first_granule c r) (first_granule c r + region_granules c r) runs

-- what is found among the granules of the region lies in it
pub found_in : (c : Configuration) (r : ℕ) (area : Run) (found : Result (List Run) Refusal) (runs : List Run) → area ≡ area_of c r → found ≡ Ok runs →
    IfOk found (λ runs. AreBetween area.first (area.first + area.count) runs) → LieInRegion c r runs
found_in c r area found runs area_is is within =
    subst (λ (a : Run). AreBetween a.first (a.first + a.count) runs) area_is
    (subst (λ (f : Result (List Run) Refusal). IfOk f (λ runs. AreBetween area.first (area.first + area.count) runs)) is within)

-- ---- runs one behind another

pub between_few : (from to : ℕ) (runs : List Run) → AreBetween from to runs → from + length runs ≤ to
between_few from to [] rises = omega (arith, rises)
between_few from to (run ∷ runs) rises = omega (arith, rises.0, rises.1, between_few (run.first + run.count) to runs rises.2)

pub between_runs : (c : Configuration) (r from : ℕ) (runs : List Run) → r < length c.regions → first_granule c r ≤ from → AreBetween from (first_granule c r + region_granules c r) runs → All (IsRun c) runs
between_runs c r from [] known low rises i d below = absurd (omega (arith, below))
between_runs c r from (run ∷ runs) known low rises zero d below =
    let high = between_few (run.first + run.count) (first_granule c r + region_granules c r) runs rises.2 in
    let at : region_of c run.first ≡ r = region_is c run.first r known (omega (arith, low, rises.0)) (omega (arith, rises.1, high)) in
    record {
      some = rises.1;
      known = omega (arith, rises.1, high, granules_within c r known);
      within = subst (λ k. run.first + run.count ≤ first_granule c (suc k)) (sym at) (omega (arith, high));
    }
between_runs c r from (run ∷ runs) known low rises (suc i) d below =
    between_runs c r (run.first + run.count) runs known (omega (arith, low, rises.0)) rises.2 i d (omega (arith, below))
