use Rattle.std.proofs.Common.{◌≡◌, None}
use Rattle.region_config.specs.{declared.faults.ConfigFault.ConfigFault, Setups.bad_base, Setups.faults, Setups.first_below}
use Rattle.region_config.proofs.layout.Layout.base_fault_of.Given as goal

abbrev pub invariant-loop-region : goal.invariant-loop-region
invariant-loop-region l = first_below (λ r. faults (bad_base l.self l.host r) (ConfigFault.Base l.host r)) l.region ≡ None
