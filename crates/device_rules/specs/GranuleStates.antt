-- Which host a granule is offered to, and which tag it stands for.
use Rattle.std.specs.{Prelude.ℕ, Prelude.Bool, Prelude.List, Prelude.map, List.list_any}
use Rattle.cci_codec.specs.dcd_base.specs.{Words.has_in_runs, declared.capacity.Tag.Tag, declared.ids.HostId.HostId}
use Rattle.journal_core.specs.declared.outcome.Effect.{Effect}
use Rattle.extent_list.specs.media_map.specs.{Places.run_of, region_config.specs.Configurations.Configuration}
use Rattle.device_rules.specs.{Hosts.offers_of, Tags.last_offer, Tags.tag_runs}

-- whether the granule stands in an unanswered offer to the host
abbrev pub is_granule_offered : Configuration → HostId → ℕ → List Effect → Bool
is_granule_offered c h g past = list_any (λ xs. has_in_runs (map (run_of c h) xs) g) (offers_of h past)

-- whether the tag's last offer has the granule
abbrev pub stands_for : Configuration → List Effect → ℕ → Tag → Bool
stands_for c past g t = has_in_runs (tag_runs c (last_offer t past)) g
