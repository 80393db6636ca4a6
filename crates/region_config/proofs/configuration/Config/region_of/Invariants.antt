use Rattle.std.proofs.Common.{◌≡◌, ◌≤◌}
use Rattle.region_config.specs.Granules.{first_granule}
use Rattle.region_config.proofs.configuration.Config.region_of.Given as goal

abbrev pub invariant-loop-region : goal.invariant-loop-region
invariant-loop-region l = (l.end ≡ first_granule l.self l.region) × (l.end ≤ l.fn.granule)
