use Rattle.std.proofs.Common.{ap, arith, length, ◌∙◌}
use Rattle.region_config.{specs.Configurations.Configuration, specs.Granules.region_spec, specs.declared.region_spec.RegionSpec.RegionSpec, proofs.PresentBlocks.region_spec-with_blocks}
use Rattle.journal_core.specs.Entries.{effects}
use Rattle.device_plain.specs.{control_core.specs.manager_commands.proofs.Reached.blocks_long, device_rules.specs.Hosts.block_of}
use Rattle.pool_planner.proofs.held.block_size.Goals as goal

pub region-requires : goal.region-requires
region-requires c =
    let control = c.args.control.now in
    omega (arith, c.requires, ap (λ (d : Configuration). length d.regions) c.config.ensures, blocks_long control.config (λ r. block_of control.config r (effects control.entries)))

pub returns-clause-value : goal.returns-clause-value
returns-clause-value c =
    let control = c.args.control.now in
    ap (λ (s : RegionSpec). s.block) (c.region.ensures.value ∙ ap (λ (d : Configuration). region_spec d c.args.region) c.config.ensures
    ∙ region_spec-with_blocks control.config (λ r. block_of control.config r (effects control.entries)) c.args.region c.requires)
