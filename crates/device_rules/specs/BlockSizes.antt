-- What every legal journal keeps of the block sizes.
use Rattle.std.specs.Prelude.{◌≡◌, ◌<◌, ℕ, true, List, length}
use Rattle.journal_core.specs.declared.outcome.Effect.{Effect}
use Rattle.extent_list.specs.media_map.specs.region_config.specs.{Configurations.Configuration, Granules.is_supported, Granules.region_spec}
use Rattle.device_rules.specs.Hosts.{block_of}

-- The present block of each region is a size that it supports.
abbrev pub BlocksSupported : Configuration → List Effect → Type 0
BlocksSupported c past = (r : ℕ) → r < length c.regions → is_supported (region_spec c r) (block_of c r past) ≡ true
