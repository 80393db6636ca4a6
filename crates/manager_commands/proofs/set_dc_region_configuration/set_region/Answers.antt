use Rattle.std.proofs.Common.{◌<◌, Some, None, length, arith, sym, ◌∙◌}
use Rattle.device_state.specs.device_rules.specs.Views.{view_of}
use Rattle.manager_commands.proofs.Reached.{logs_kept, regions_kept, states_count}
use Rattle.manager_commands.proofs.SetDcRegionConfiguration.{set_rule-logs, set_rule-size, told_all, unknown_region}
use Rattle.manager_commands.proofs.set_dc_region_configuration.set_region.Goals as goal

pub returns-then-region-regions : goal.returns-then-region-regions
returns-then-region-regions c journal legal kept =
    unknown_region c.args.config.now journal (λ h. view_of c.args.config.now h journal) c.args.region c.args.sanitize c.args.block
    (omega (arith, regions_kept c.args.config.now journal c.args.state.now kept, c.regions.ensures.value, c.if-region-regions.true))

pub block_rule-requires-clause-granules : goal.block_rule-requires-clause-granules
block_rule-requires-clause-granules c = states_count c.args.config.now c.args.state.now c.requires.reached

pub returns-in-Some : goal.returns-in-Some
returns-in-Some c journal legal kept =
    let cfg = c.args.config.now in
    let known : c.args.region < length cfg.regions = omega (arith, regions_kept cfg journal c.args.state.now kept, c.regions.ensures.value, c.if-region-regions.false) in
    set_rule-size cfg c.requires.reached.sound journal c.args.state.now kept c.args.region known (λ h. view_of cfg h journal) c.args.sanitize c.args.block c.in-Some.rule (sym c.in_ok-rule.ensures ∙ c.in-Some.is)

pub returns-in-Some-first_full : goal.returns-in-Some-first_full
returns-in-Some-first_full c journal legal kept =
    let cfg = c.args.config.now in
    let s = c.args.state.now in
    let known : c.args.region < length cfg.regions = omega (arith, regions_kept cfg journal s kept, c.regions.ensures.value, c.if-region-regions.false) in
    set_rule-logs cfg c.requires.reached.sound journal s kept c.args.region known (λ h. view_of cfg h journal) c.args.sanitize c.args.block (Some c.in-Some-first_full.rule) (sym c.in_ok-rule.ensures ∙ c.in_default.is)
    (sym (c.first_full.ensures (λ h. view_of cfg h journal) (logs_kept cfg journal s kept)) ∙ c.in-Some-first_full.is)

pub returns : goal.returns
returns c journal legal kept =
    let cfg = c.args.config.now in
    let s = c.args.state.now in
    let known : c.args.region < length cfg.regions = omega (arith, regions_kept cfg journal s kept, c.regions.ensures.value, c.if-region-regions.false) in (
      set_rule-logs cfg c.requires.reached.sound journal s kept c.args.region known (λ h. view_of cfg h journal) c.args.sanitize c.args.block None (sym c.in_ok-rule.ensures ∙ c.in_default.is)
          (sym (c.first_full.ensures (λ h. view_of cfg h journal) (logs_kept cfg journal s kept)) ∙ c.in_default-first_full.is),
      told_all cfg c.requires.reached.sound journal s kept c.args.region known (λ h. view_of cfg h journal) c.args.sanitize c.args.block c.in_ok-region_draft.field-0
          (c.in_ok-region_draft.ensures (λ h. view_of cfg h journal)),
    )
