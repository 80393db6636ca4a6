-- The configuration of the script has no fault.
use Rattle.std.proofs.Common.{◌≡◌, None, refl}
use lib.Count.{count_trailing_zeros}
use Rattle.region_config.specs.{Granules.sizes_in, Setups.config_fault, Setups.largest_size}
use Rattle.script_gen.specs.Generated.{generated_config}

pub faultless : config_fault generated_config ≡ None
unfolding config_fault largest_size sizes_in count_trailing_zeros
faultless = refl
