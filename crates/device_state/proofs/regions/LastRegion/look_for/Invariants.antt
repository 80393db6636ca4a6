use Rattle.std.proofs.Common.{◌≡◌, ◌≤◌}
use Rattle.extent_list.specs.media_map.specs.region_config.specs.Granules.{first_granule}
use Rattle.device_state.specs.Granules.{IsLastRegion}
use Rattle.device_state.proofs.regions.LastRegion.look_for.Given as goal

abbrev pub invariant-loop-number : goal.invariant-loop-number
invariant-loop-number l = record {
  last : IsLastRegion l.config l.self;
  end : l.end ≡ first_granule l.config l.number;
  behind : l.end ≤ l.fn.granule;
}
