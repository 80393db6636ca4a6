use Rattle.std.proofs.Common.{sym}
use Rattle.region_config.{specs.declared.faults.ConfigFault.ConfigFault, specs.Setups.bad_base, specs.Setups.each_region, specs.Setups.faults, proofs.Searches.first_found}
use Rattle.region_config.proofs.layout.Layout.base_fault.Goals as goal

pub returns-in-Some : goal.returns-in-Some
returns-in-Some c =
    sym (first_found (λ h. each_region c.args.self.now (λ r. faults (bad_base c.args.self.now h r) (ConfigFault.Base h r))) _ _ _ (rw c.hosts-host-end.ensures at c.loop-host-test.true) c.loop-host.invariant (sym c.in-Some.ensures))
