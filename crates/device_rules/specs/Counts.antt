-- What is counted of a device: granules and records.
use Rattle.std.specs.Prelude.{ℕ, List, length, sum_by}
use Rattle.cci_codec.specs.dcd_base.specs.declared.{ids.HostId.HostId, steps.LogId.LogId}
use Rattle.event_records.specs.declared.events.Event.{Event}
use Rattle.extent_list.specs.media_map.specs.{region_config.specs.Configurations.Configuration, Places.run_of}
use Rattle.journal_core.specs.declared.outcome.Effect.{Effect}
use Rattle.device_rules.specs.{Hosts.accepted_of, Logs.log_of, Tags.free_granules, Tags.dirty_granules}
use Rattle.event_log.specs.Logs.{records_in}

-- how many extents the host has accepted, and how many granules they have
unfoldable pub extent_count : Configuration → HostId → List Effect → ℕ
extent_count c h past = length (accepted_of c h past)

unfoldable pub granules_held : Configuration → HostId → List Effect → ℕ
granules_held c h past = sum_by (λ x. (run_of c h x).count) (accepted_of c h past)

-- the records in the log, oldest first, and how many found it full
unfoldable pub records_of : LogId → List Effect → List Event
records_of l past = records_in (log_of l past)

unfoldable pub missed_of : LogId → List Effect → ℕ
missed_of l past = (log_of l past).missed

-- how many granules are free, and how many are dirty
unfoldable pub free_count : Configuration → List Effect → ℕ
free_count c past = length (free_granules c past)

unfoldable pub dirty_count : Configuration → List Effect → ℕ
dirty_count c past = length (dirty_granules c past)
