use Rattle.std.proofs.Common.{◌∙◌, sym}
use Rattle.region_config.{specs.declared.faults.ConfigFault.ConfigFault, specs.Granules.region_spec, specs.Setups.bad_length, proofs.Searches.found}
use Rattle.region_config.proofs.layout.Layout.length_fault.Goals as goal

pub returns-then-has_bad_length : goal.returns-then-has_bad_length
returns-then-has_bad_length c =
    sym (found (λ r. bad_length (region_spec c.args.self.now r)) (λ r. ConfigFault.Length r) _ _ (rw c.region_count-region-end.ensures.value at c.loop-region-test.true) c.loop-region.invariant (rw c.region.ensures at (sym c.has_bad_length.ensures ∙ c.if-has_bad_length.true)))
