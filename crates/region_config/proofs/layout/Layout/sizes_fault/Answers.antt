use Rattle.std.proofs.Common.{◌∙◌, sym}
use Rattle.region_config.{specs.declared.faults.ConfigFault.ConfigFault, specs.Granules.region_spec, specs.Setups.bad_sizes, proofs.Searches.found}
use Rattle.region_config.proofs.layout.Layout.sizes_fault.Goals as goal

pub returns-then-has_bad_sizes : goal.returns-then-has_bad_sizes
returns-then-has_bad_sizes c =
    sym (found (λ r. bad_sizes (region_spec c.args.self.now r)) (λ r. ConfigFault.BlockSize r) _ _ (rw c.region_count-region-end.ensures.value at c.loop-region-test.true) c.loop-region.invariant (rw c.region.ensures at (sym c.has_bad_sizes.ensures ∙ c.if-has_bad_sizes.true)))
