-- Who holds which granule, and what was done to it since it was last zeroed.
use Rattle.std.specs.Prelude.{ℕ, Bool, true, false, ◌&&◌, ◌==◌, List, filter, fold, if◌then◌else◌}
use Rattle.cci_codec.specs.dcd_base.specs.{declared.ids.HostId.HostId, Words.has_granule}
use Rattle.region_config.specs.{Configurations.Configuration, Granules.hosts_of}
use Rattle.journal_core.specs.declared.outcome.Effect.{Effect}

-- whether the host holds the granule after one more effect: a Take gives it, a Leave takes it away
abbrev pub holding_after : HostId → ℕ → Bool → Effect → Bool
holding_after h g held (Effect.Take k run) = if (k == h) && has_granule run g then true else held
holding_after h g held (Effect.Leave k run) = if (k == h) && has_granule run g then false else held
holding_after h g held e = held

-- whether the last Take or Leave of the granule by the host is a Take
abbrev pub holds : HostId → ℕ → List Effect → Bool
holds h g past = fold (holding_after h g) false past

-- the hosts that hold the granule
abbrev pub holders : Configuration → ℕ → List Effect → List HostId
holders c g past = filter (λ h. holds h g past) (hosts_of c)

-- whether the granule is taken, after one more effect: since it was last zeroed
abbrev pub taking_after : ℕ → Bool → Effect → Bool
taking_after g taken (Effect.Take k run) = if has_granule run g then true else taken
taking_after g taken (Effect.Zero run) = if has_granule run g then false else taken
taking_after g taken e = taken

-- whether it is so after these effects
abbrev pub is_taken : ℕ → List Effect → Bool
is_taken g past = fold (taking_after g) false past

-- whether it is soiled, after one more effect: since it was last zeroed, a command that cleans removed it from a host
abbrev pub soil_after : ℕ → Bool → Effect → Bool
soil_after g soiled (Effect.Soil run) = if has_granule run g then true else soiled
soil_after g soiled (Effect.Zero run) = if has_granule run g then false else soiled
soil_after g soiled e = soiled

-- whether it is so after these effects
abbrev pub is_soiled : ℕ → List Effect → Bool
is_soiled g past = fold (soil_after g) false past
