-- Which adjacent granules are of one region.
use Rattle.std.proofs.Common.{◌≡◌, ℕ, suc, ◌+◌, ◌-◌, ◌<◌, ◌≤◌, true, false, length, ap, sym, ◌∙◌, arith}
use Rattle.std.proofs.lemmas.Bool.{eq-eqb, ne_eqb}
use Rattle.region_config.{proofs.Faultless.granules_rise, proofs.GranuleLemmas.of_region, proofs.GranuleLemmas.region_is, specs.Configurations.Configuration}
use Rattle.region_config.specs.{Granules.first_granule, Granules.granule_total, Granules.region_of, Granules.same_region, dcd_base.specs.declared.media.Run.Run}
use Rattle.sanitizer.specs.Turns.{IsInRegion}

module _ (c : Configuration) (r : ℕ) (known : r < length c.regions) where
  -- those of a region's granules
  pub together : (g : ℕ) → first_granule c r ≤ g → g + 1 < first_granule c (suc r) → same_region c g (g + 1) ≡ true
  together g from to = eq-eqb _ _ (region_is c g r known from (omega (arith, to)) ∙ sym (region_is c (g + 1) r known (omega (arith, from)) to))

  -- and not the last one and the next region's first
  pub apart : first_granule c r < first_granule c (suc r) → first_granule c (suc r) < granule_total c
      → same_region c (first_granule c (suc r) - 1) (first_granule c (suc r)) ≡ false
  apart some inner =
      let here = region_is c (first_granule c (suc r) - 1) r known (omega (arith, some)) (omega (arith, some)) in
      let next = of_region c (first_granule c (suc r)) inner in
      ne_eqb _ _ (λ same. let end : first_granule c (suc (region_of c (first_granule c (suc r)))) ≡ first_granule c (suc r) = ap (λ k. first_granule c (suc k)) (sym same ∙ here) in
      absurd (omega (arith, next.to, end)))

-- a run of a region ends with the last granule at most
pub run_below : (c : Configuration) (run : Run) → IsInRegion c run → run.first + run.count ≤ granule_total c
run_below c run is =
    let region = of_region c run.first is.known in
    omega (arith, is.within, granules_rise c (suc (region_of c run.first)) (length c.regions) region.known)
