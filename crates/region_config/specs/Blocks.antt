-- How the block size of a region is changed.
use Rattle.dcd_base.specs.Words.{flag_of, ◌or◌}
use Rattle.std.specs.declared.result.Result.{Result}
use Rattle.std.specs.Prelude.{◌≡◌, ℕ, Bool, not, ◌==◌, MatchResult, None, Option, Some, slice_set}
use Rattle.region_config.specs.{Configurations.Configuration, Granules.is_supported, Granules.region_spec, Setups.faults, declared.faults.BlockFault.BlockFault}
use Rattle.region_config.specs.declared.region_spec.RegionSpec.{RegionSpec}

-- why a block size is refused
abbrev pub block_fault : RegionSpec → ℕ → Bool → ℕ → Option BlockFault
block_fault spec size sanitize in_use =
    faults (not (is_supported spec size)) (BlockFault.NotSupportedSize size)
    or faults (not (flag_of sanitize == flag_of spec.sanitize)) BlockFault.SanitizeDiffers
    or faults (not (in_use == 0)) (BlockFault.InUse in_use)

-- The call refuses for this fault, where there is one.
abbrev pub RefusesFor : Option BlockFault → Result (Unit {0}) BlockFault → Type 0
RefusesFor fault result = MatchResult result (λ _. fault ≡ None) (λ told. fault ≡ Some told)

-- the configuration with this block in one region
abbrev pub with_block : Configuration → ℕ → ℕ → Configuration
with_block c r size = record c { regions = slice_set c.regions r (record (region_spec c r) { block = size }) }
