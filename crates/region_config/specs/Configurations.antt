-- A configuration as contracts see it.
use Rattle.std.specs.Prelude.{ℕ, List}
use Rattle.region_config.specs.declared.region_spec.RegionSpec.{RegionSpec}

-- How many hosts there are, the regions, and where each host's regions begin: host by host.
pub record Configuration : Type 0 where
  pub hosts : ℕ
  pub regions : List RegionSpec
  pub bases : List ℕ
