use Rattle.std.{proofs.Common.◌≡◌, proofs.Common.◌-◌, proofs.Common.map, proofs.Common.length, specs.List.range_with_len}
use Rattle.extent_list.specs.media_map.specs.region_config.specs.{Configurations.Configuration, Granules.with_blocks}
use Rattle.device_rules.specs.{Settings.region_seen, Views.View}
use Rattle.device_commands.specs.ShownFlags.{flags_of as flags_shown}
use Rattle.device_commands.proofs.pages.regions_seen.Given as goal

-- The regions from the first on are seen.
abbrev pub invariant-loop-region : goal.invariant-loop-region
invariant-loop-region l = record {
  seen : (c : Configuration) (v : View) → l.fn.present ≡ with_blocks c v.block → l.views ≡ map (region_seen c l.host v (flags_shown l.flags)) (range_with_len l.first (l.region - l.first));
  few : length l.views ≡ l.region - l.first;
}
