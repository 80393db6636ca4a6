use Rattle.std.{proofs.Common.◌≡◌, specs.List.range_with_len}
use Rattle.manager_commands.specs.SetDcRegionConfiguration.{told_to_all}
use Rattle.manager_commands.proofs.set_dc_region_configuration.records_for_all.Given as goal

abbrev pub invariant-loop-host : goal.invariant-loop-host
invariant-loop-host l = l.log_records ≡ told_to_all l.region (range_with_len 0 l.host)
