-- The present configuration is the one of the device with its present block sizes, as entering a step asks.
use Rattle.std.proofs.Common.{◌≡◌, ℕ, ◌<◌, List, length, sym, ap, ◌∙◌, arith}
use Rattle.std.{specs.List.enumerate_from, proofs.lemmas.List.ext_get_or, proofs.lemmas.List.length-map, proofs.lemmas.List.FromFn.length-enumerate_from}
use Rattle.journal_core.specs.{Entries.effects, declared.entries.Entry.Entry}
use Rattle.extent_list.specs.media_map.specs.region_config.{proofs.PresentBlocks.region_spec-with_blocks, specs.Configurations.Configuration}
use Rattle.extent_list.specs.media_map.specs.region_config.specs.{Granules.no_region, Granules.region_spec, Granules.with_blocks, declared.region_spec.RegionSpec.RegionSpec}
use Rattle.device_rules.specs.Hosts.{block_of}
use Rattle.device_state.specs.{StateAfter.IsStateAfter, declared.state.State.State}

long : (c : Configuration) (b : ℕ → ℕ) → length (with_blocks c b).regions ≡ length c.regions
long c b = length-map (enumerate_from 0 c.regions) (λ (spec : ℕ × RegionSpec). record spec.1 { block = b spec.0 }) ∙ length-enumerate_from 0 c.regions

-- only the blocks of its regions count
same_blocks : (c : Configuration) (a b : ℕ → ℕ) → ((r : ℕ) → r < length c.regions → a r ≡ b r) → with_blocks c a ≡ with_blocks c b
same_blocks c a b same = λ i. record { hosts = c.hosts; regions = regions i; bases = c.bases }
  where
    regions : (with_blocks c a).regions ≡ (with_blocks c b).regions
    regions = ext_get_or no_region (with_blocks c a).regions (with_blocks c b).regions (long c a ∙ sym (long c b))
        (λ r below. let known : r < length c.regions = omega (arith, below, long c a) in
        region_spec-with_blocks c a r known ∙ ap (λ n. record (region_spec c r) { block = n }) (same r known) ∙ sym (region_spec-with_blocks c b r known))

pub present_blocks : (c : Configuration) (journal : List Entry) (s : State) → IsStateAfter c journal s → s.present ≡ with_blocks c (λ r. (region_spec s.present r).block)
present_blocks c journal s kept =
    kept.present_is
    ∙ same_blocks c (λ r. block_of c r (effects journal)) (λ r. (region_spec (with_blocks c (λ r. block_of c r (effects journal))) r).block)
    (λ r known. sym (ap (λ (spec : RegionSpec). spec.block) (region_spec-with_blocks c (λ r. block_of c r (effects journal)) r known)))
    ∙ ap (λ (d : Configuration). with_blocks c (λ r. (region_spec d r).block)) (sym kept.present_is)
