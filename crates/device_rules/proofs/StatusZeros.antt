-- The status of a granule after a scrub.
use Rattle.std.proofs.Common.{◌≡◌, ℕ, Bool, true, false, ◌&&◌, ◌||◌, not, List, ◌++◌, inl, inr, refl, sym, ap, ◌∙◌}
use Rattle.std.{specs.Prelude.map, specs.Prelude.◌==◌, specs.Prelude.if◌then◌else◌, specs.List.list_any, proofs.lemmas.Bool.cases_Bool}
use Rattle.granule_map.specs.Choices.{joined}
use Rattle.device_rules.proofs.{JoinedRuns.any_taken, JoinedRuns.joined_has, JoinedRuns.passes_there, Leaving.leaves_holders, Leaving.leaves_offers, Leaving.leaves_tags, Leaving.map_passes}
use Rattle.device_rules.proofs.RunEffects.{run_from, zeros, soil-zeros, taking-zeros}
use Rattle.device_rules.proofs.StatusParts.{status_by, status_is, held-left, offered-left, tagged-left}
use Rattle.device_rules.specs.Answers.{scrubbed, zeroes}
use Rattle.extent_list.specs.media_map.specs.region_config.specs.{Configurations.Configuration, Granules.same_region, Granules.region_of, Granules.region_spec}
use Rattle.extent_list.specs.media_map.specs.region_config.specs.declared.region_spec.RegionSpec.{RegionSpec}
use Rattle.cci_codec.specs.dcd_base.specs.Words.{has_in_runs}
use Rattle.journal_core.{specs.declared.outcome.Effect.Effect, specs.Holders.is_soiled, specs.Holders.is_taken, proofs.HoldingSteps.is_soiled-append, proofs.HoldingSteps.is_taken-append}
use Rattle.device_rules.specs.Tags.{Held, Offered, Tagged, Dirty, Free, dirty_granules, all_granules, is_dirty, is_held, is_offered, is_tagged, status}

no_longer : (b : Bool) → (b && false) ≡ false
no_longer true = refl
no_longer false = refl

still : (b : Bool) → (b && true) ≡ b
still true = refl
still false = refl

-- what is dirty is free once it is neither taken nor soiled, and nothing else changes by that
freed : (spec : RegionSpec) (held offered tagged taken soiled : Bool) → is_dirty (status_by spec held offered tagged taken soiled) ≡ true → status_by spec held offered tagged false false ≡ Free
freed spec held offered tagged taken soiled dirty = by (not spec.shareable) spec.sanitize held offered tagged taken soiled dirty
  where
    by : (private sanitize held offered tagged taken soiled : Bool) →
        is_dirty (if private && held then Held else if private && offered then Offered else if tagged then Tagged else if (sanitize && taken) || soiled then Dirty else Free) ≡ true →
        (if private && held then Held else if private && offered then Offered else if tagged then Tagged else if (sanitize && false) || false then Dirty else Free) ≡ Free
    by true sanitize true offered tagged taken soiled dirty = absurd (cc)
    by true sanitize false true tagged taken soiled dirty = absurd (cc)
    by true sanitize false false true taken soiled dirty = absurd (cc)
    by true true false false false taken soiled dirty = refl
    by true false false false false taken soiled dirty = refl
    by false sanitize held offered true taken soiled dirty = absurd (cc)
    by false true held offered false taken soiled dirty = refl
    by false false held offered false taken soiled dirty = refl

module _ (c : Configuration) (g : ℕ) (past : List Effect) (runs : List (ℕ × ℕ)) where
  pub taken-zeros : is_taken g (past ++ zeros runs) ≡ (is_taken g past && not (has_in_runs (map run_from runs) g))
  taken-zeros = is_taken-append g past (zeros runs) ∙ taking-zeros g (is_taken g past) runs

  pub soiled-zeros : is_soiled g (past ++ zeros runs) ≡ (is_soiled g past && not (has_in_runs (map run_from runs) g))
  soiled-zeros = is_soiled-append g past (zeros runs) ∙ soil-zeros g (is_soiled g past) runs

  held-zeros : is_held c g (past ++ zeros runs) ≡ is_held c g past
  held-zeros = held-left c g past (zeros runs) (map_passes leaves_holders (λ r. Effect.Zero (run_from r)) (λ r. refl) runs)

  offered-zeros : is_offered c g (past ++ zeros runs) ≡ is_offered c g past
  offered-zeros = offered-left c g past (zeros runs) (map_passes leaves_offers (λ r. Effect.Zero (run_from r)) (λ r. refl) runs)

  tagged-zeros : is_tagged c g (past ++ zeros runs) ≡ is_tagged c g past
  tagged-zeros = tagged-left c g past (zeros runs) (map_passes leaves_tags (λ r. Effect.Zero (run_from r)) (λ r. refl) runs)

  -- a dirty granule is free once it is zeroed
  pub status-zeroed : has_in_runs (map run_from runs) g ≡ true → is_dirty (status c g past) ≡ true → status c g (past ++ zeros runs) ≡ Free
  status-zeroed here dirty =
      status_is c g (past ++ zeros runs) (is_held c g past) (is_offered c g past) (is_tagged c g past) false false (record {
        held_is = held-zeros;
        offered_is = offered-zeros;
        tagged_is = tagged-zeros;
        taken_is = taken-zeros ∙ ap (λ b. is_taken g past && not b) here ∙ no_longer (is_taken g past);
        soiled_is = soiled-zeros ∙ ap (λ b. is_soiled g past && not b) here ∙ no_longer (is_soiled g past);
      })
      ∙ freed (region_spec c (region_of c g)) (is_held c g past) (is_offered c g past) (is_tagged c g past) (is_taken g past) (is_soiled g past) dirty

  -- a granule of no zeroed run
  pub status-not_zeroed : has_in_runs (map run_from runs) g ≡ false → status c g (past ++ zeros runs) ≡ status c g past
  status-not_zeroed out =
      status_is c g (past ++ zeros runs) (is_held c g past) (is_offered c g past) (is_tagged c g past) (is_taken g past) (is_soiled g past) (record {
        held_is = held-zeros;
        offered_is = offered-zeros;
        tagged_is = tagged-zeros;
        taken_is = taken-zeros ∙ ap (λ b. is_taken g past && not b) out ∙ still (is_taken g past);
        soiled_is = soiled-zeros ∙ ap (λ b. is_soiled g past && not b) out ∙ still (is_soiled g past);
      })

-- After a scrub the granules that it zeroed are free, and all others are as before.
pub status-scrub : (c : Configuration) (g : ℕ) (past : List Effect) (n : ℕ) →
    status c g (past ++ zeroes c (scrubbed c past n)) ≡ (if list_any (λ m. m == g) (scrubbed c past n) then Free else status c g past)
status-scrub c g past n =
    let runs : List (ℕ × ℕ) = joined (same_region c) (scrubbed c past n) in
    let there = joined_has (same_region c) (scrubbed c past n) g in
    elim (cases_Bool (list_any (λ m. m == g) (scrubbed c past n))) [
      | inl here ↦ status-zeroed c g past runs (there ∙ here)
          (passes_there (λ m. is_dirty (status c m past)) g (all_granules c) (any_taken (λ m. m == g) n (dirty_granules c past) here))
          ∙ sym (ap (λ b. if b then Free else status c g past) here)
      | inr out ↦ status-not_zeroed c g past runs (there ∙ out) ∙ sym (ap (λ b. if b then Free else status c g past) out)
    ]
