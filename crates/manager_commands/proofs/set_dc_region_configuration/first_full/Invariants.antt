use Rattle.std.{proofs.Common.◌≡◌, proofs.Common.None, specs.List.range_with_len}
use Rattle.event_records.specs.dcd_base.specs.declared.ids.HostId.{HostId}
use Rattle.extent_list.specs.dcd_codes.specs.Rules.{each_in}
use Rattle.device_state.specs.device_rules.specs.{Outcomes.log_full, Views.View}
use Rattle.manager_commands.specs.SetDcRegionConfiguration.{LogsAreOf}
use Rattle.manager_commands.proofs.set_dc_region_configuration.first_full.Given as goal

abbrev pub invariant-loop-host : goal.invariant-loop-host
invariant-loop-host l = (view_for : HostId → View) → LogsAreOf l.state view_for → each_in (range_with_len 0 l.host) (λ before h. log_full h (view_for h).log 1) ≡ None
