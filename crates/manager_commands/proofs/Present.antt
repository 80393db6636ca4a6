-- The present configuration is the first one with its present blocks.
use Rattle.std.proofs.Common.{◌≡◌, ℕ, ◌<◌, length, sym, ap, subst, ◌∙◌, arith}
use Rattle.std.{specs.List.enumerate_from, proofs.lemmas.List.ext_get_or, proofs.lemmas.List.length-map, proofs.lemmas.List.FromFn.length-enumerate_from}
use Rattle.extent_list.specs.media_map.specs.region_config.{proofs.PresentBlocks.region_spec-with_blocks, specs.Configurations.Configuration}
use Rattle.extent_list.specs.media_map.specs.region_config.specs.{Granules.no_region, Granules.region_spec, Granules.with_blocks, declared.region_spec.RegionSpec.RegionSpec}

long : (c : Configuration) (b : ℕ → ℕ) → length (with_blocks c b).regions ≡ length c.regions
long c b = length-map (enumerate_from 0 c.regions) (λ (spec : ℕ × RegionSpec). record spec.1 { block = b spec.0 }) ∙ length-enumerate_from 0 c.regions

blocks_of : (c : Configuration) (b : ℕ → ℕ) → with_blocks c b ≡ with_blocks c (λ r. (region_spec (with_blocks c b) r).block)
blocks_of c b = λ i. record { hosts = c.hosts; regions = same i; bases = c.bases }
  where
    own : ℕ → ℕ
    own r = (region_spec (with_blocks c b) r).block

    each : (r : ℕ) → r < length c.regions → region_spec (with_blocks c b) r ≡ region_spec (with_blocks c own) r
    each r known =
        let first = region_spec-with_blocks c b r known in
        first
        ∙ ap (λ n. record (region_spec c r) { block = n }) (sym (ap (λ (s : RegionSpec). s.block) first))
        ∙ sym (region_spec-with_blocks c own r known)

    same : (with_blocks c b).regions ≡ (with_blocks c own).regions
    same = ext_get_or no_region (with_blocks c b).regions (with_blocks c own).regions (long c b ∙ sym (long c own))
        (λ r below. each r (omega (arith, below, long c b)))

pub own_blocks : (c p : Configuration) (b : ℕ → ℕ) → p ≡ with_blocks c b → p ≡ with_blocks c (λ r. (region_spec p r).block)
own_blocks c p b is = subst (λ x. x ≡ with_blocks c (λ r. (region_spec x r).block)) (sym is) (blocks_of c b)
