use Rattle.std.proofs.Common.{◌∙◌, sym}
use Rattle.region_config.{specs.declared.faults.ConfigFault.ConfigFault, specs.Setups.bad_base, proofs.Searches.found}
use Rattle.region_config.proofs.layout.Layout.base_fault_of.Goals as goal

pub returns-then-has_bad_base : goal.returns-then-has_bad_base
returns-then-has_bad_base c =
    sym (found (λ r. bad_base c.args.self.now c.args.host r) (λ r. ConfigFault.Base c.args.host r) _ _ (rw c.region_count-region-end.ensures.value at c.loop-region-test.true) c.loop-region.invariant (sym c.has_bad_base.ensures ∙ c.if-has_bad_base.true))
