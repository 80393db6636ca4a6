use Rattle.std.proofs.Common.{◌++◌, length, ap, refl, ◌∙◌, arith}
use Rattle.extent_list.specs.media_map.specs.region_config.specs.Configurations.{Configuration}
use Rattle.host_payloads.specs.HostPayloads.{configuration_payload}
use Rattle.device_commands.{specs.device_rules.proofs.Homes.regions_same, specs.declared.draft.Draft.Draft, proofs.ShownRegions.region_known, proofs.ShownRegions.region_past}
use Rattle.host_commands.proofs.get_dynamic_capacity_configuration.get_configuration.Goals as goal

pub returns-then-first-regions : goal.returns-then-first-regions
returns-then-first-regions c = λ cfg v is lists.
    let regions = ap (λ (p : Configuration). length p.regions) is ∙ regions_same cfg v.block in
    region_past cfg c.args.first (omega (arith, regions, c.if-first-regions.true, c.regions.ensures.value))

pub returns : goal.returns
returns c = λ cfg v is lists.
    let regions = ap (λ (p : Configuration). length p.regions) is ∙ regions_same cfg v.block in
    let total = c.regions-2.ensures.value ∙ regions in
    let views = c.as_slice.ensures.value ∙ c.regions_seen-views.ensures cfg v is in
    let counts = c.host_counts-counts.ensures v lists in (
      region_known cfg c.args.first (omega (arith, regions, c.if-first-regions.false, c.regions.ensures.value)),
      record {
        payload = ap (λ (d : Draft). d.payload) c.only.ensures ∙ c.in_ok-write_configuration.ensures.appended
            ∙ ap (λ front. front ++ configuration_payload c.regions-2.result c.as_slice.result.now c.host_counts-counts.result) c.new-payload.ensures
            ∙ (λ i. configuration_payload (total i) (views i) (counts i));
        changes = ap (λ (d : Draft). d.changes) c.only.ensures;
        tags = ap (λ (d : Draft). d.tags) c.only.ensures;
        log_records = ap (λ (d : Draft). d.log_records) c.only.ensures;
        untold = refl;
      },
    )
