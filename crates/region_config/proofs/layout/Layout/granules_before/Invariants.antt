use Rattle.std.proofs.Common.{◌≡◌, ◌≤◌, ◌*◌, ◌^◌}
use Rattle.region_config.specs.Granules.{first_granule}
use Rattle.region_config.proofs.layout.Layout.granules_before.Given as goal

abbrev pub invariant-loop-before : goal.invariant-loop-before
invariant-loop-before l = (l.total ≡ first_granule l.self l.before) × (l.total ≤ l.before * 2 ^ 52)
