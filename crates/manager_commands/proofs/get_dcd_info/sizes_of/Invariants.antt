use Rattle.std.proofs.Common.{◌≡◌, length, map, take}
use Rattle.extent_list.specs.media_map.specs.region_config.specs.declared.region_spec.RegionSpec.{RegionSpec}
use Rattle.manager_commands.proofs.get_dcd_info.sizes_of.Given as goal

abbrev pub invariant-loop-region : goal.invariant-loop-region
invariant-loop-region l = record {
  sizes : l.sizes ≡ map (λ (spec : RegionSpec). spec.sizes) (take l.region l.config.regions);
  count : length l.sizes ≡ l.region;
}
