-- What becomes of a granule by its region, looked for from the first region on.
use Rattle.std.proofs.Common.{◌≡◌, ℕ, suc, ◌<◌, ◌≤◌, length, Some, None, refl, sym, ap, ◌∙◌, arith}
use Rattle.std.proofs.lemmas.Bool.{le-ltb, lt-ltb}
use Rattle.extent_list.specs.media_map.specs.region_config.{proofs.Faultless.granules_rise, proofs.GranuleLemmas.region_is, specs.Configurations.Configuration}
use Rattle.extent_list.specs.media_map.specs.region_config.specs.Granules.{first_granule, granule_total, region_spec}
use Rattle.device_state.specs.{Granules.IsLastRegion, Granules.flags_found, Granules.flags_of, declared.regions.LastRegion.LastRegion}

pub found_in : (c : Configuration) (g r : ℕ) → r < length c.regions → first_granule c r ≤ g → g < first_granule c (suc r) → Some (flags_of (region_spec c r)) ≡ flags_found c g
found_in c g r known from to =
    let below : g < granule_total c = omega (arith, to, granules_rise c (suc r) (length c.regions) known) in
    rw (lt-ltb g (granule_total c) below, region_is c g r known from to) refl

-- each granule of a region
pub is_region : (c : Configuration) (r : ℕ) (last : LastRegion) → r < length c.regions → last.first ≡ first_granule c r → last.end ≡ first_granule c (suc r) →
    last.flags ≡ flags_of (region_spec c r) → IsLastRegion c last
is_region c r last known first end flags = record {
  known = λ g from to. sym (found_in c g r known (omega (arith, from, first)) (omega (arith, to, end))) ∙ ap Some (sym flags);
}

pub found_nowhere : (c : Configuration) (g : ℕ) → granule_total c ≤ g → None ≡ flags_found c g
found_nowhere c g past = rw (le-ltb g (granule_total c) past) refl
