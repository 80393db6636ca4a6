use Rattle.std.{proofs.Common.◌≡◌, proofs.Common.◌≤◌, proofs.Common.not, specs.Prelude.count_by, specs.List.range_with_len}
use Rattle.selection.specs.granule_map.specs.StateLists.{is_free_at}
use Rattle.manager_commands.proofs.set_dc_region_configuration.used_from.Given as goal

abbrev pub invariant-loop-offset : goal.invariant-loop-offset
invariant-loop-offset l = record {
  used : l.in_use ≡ count_by (λ g. not (is_free_at l.state.granules.states g)) (range_with_len l.first l.offset);
  few : l.in_use ≤ l.offset;
}
