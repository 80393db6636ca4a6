use Rattle.std.proofs.Common.{◌∙◌, sym}
use Rattle.region_config.{specs.declared.faults.ConfigFault.ConfigFault, specs.Setups.bad_order, proofs.Searches.found, proofs.Searches.none_more}
use Rattle.region_config.proofs.layout.Layout.order_fault_of.Goals as goal

pub returns-then-has_bad_order : goal.returns-then-has_bad_order
returns-then-has_bad_order c =
    sym (found (λ r. bad_order c.args.self.now c.args.host r) (λ r. ConfigFault.Overlap c.args.host r) _ _ (rw c.region_count-region-end.ensures.value at c.loop-region-test.true) c.loop-region.invariant (sym c.has_bad_order.ensures ∙ c.if-has_bad_order.true))

pub loop-region-preserved : goal.loop-region-preserved
loop-region-preserved c =
    none_more (λ r. bad_order c.args.self.now c.args.host r) (λ r. ConfigFault.Overlap c.args.host r) _ c.loop-region.invariant (sym c.has_bad_order.ensures ∙ c.if-has_bad_order.false)
