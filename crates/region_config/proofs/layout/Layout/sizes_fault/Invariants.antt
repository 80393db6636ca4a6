use Rattle.std.proofs.Common.{◌≡◌, None}
use Rattle.region_config.specs.{declared.faults.ConfigFault.ConfigFault, Granules.region_spec, Setups.bad_sizes, Setups.faults, Setups.first_below}
use Rattle.region_config.proofs.layout.Layout.sizes_fault.Given as goal

abbrev pub invariant-loop-region : goal.invariant-loop-region
invariant-loop-region l = first_below (λ r. faults (bad_sizes (region_spec l.self r)) (ConfigFault.BlockSize r)) l.region ≡ None
