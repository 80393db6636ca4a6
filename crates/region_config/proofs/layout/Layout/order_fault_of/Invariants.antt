use Rattle.std.proofs.Common.{◌≡◌, None}
use Rattle.region_config.specs.{declared.faults.ConfigFault.ConfigFault, Setups.bad_order, Setups.faults, Setups.first_below}
use Rattle.region_config.proofs.layout.Layout.order_fault_of.Given as goal

abbrev pub invariant-loop-region : goal.invariant-loop-region
invariant-loop-region l = first_below (λ r. faults (bad_order l.self l.host r) (ConfigFault.Overlap l.host r)) l.region ≡ None
