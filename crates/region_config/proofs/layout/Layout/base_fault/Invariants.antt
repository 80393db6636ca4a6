use Rattle.std.proofs.Common.{◌≡◌, None}
use Rattle.region_config.specs.{declared.faults.ConfigFault.ConfigFault, Setups.bad_base, Setups.each_region, Setups.faults, Setups.first_below}
use Rattle.region_config.proofs.layout.Layout.base_fault.Given as goal

abbrev pub invariant-loop-host : goal.invariant-loop-host
invariant-loop-host l = first_below (λ h. each_region l.self (λ r. faults (bad_base l.self h r) (ConfigFault.Base h r))) l.host ≡ None
