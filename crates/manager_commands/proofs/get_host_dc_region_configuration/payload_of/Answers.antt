use Rattle.std.proofs.{Common.◌≡◌, Common.◌++◌, Common.ℕ, Common.List, Common.ap, Common.length, Common.map, Common.◌∙◌, lemmas.List.length-map}
use Rattle.std.specs.Prelude.{flat_map}
use Rattle.device_state.specs.declared.parts.HostPart.{HostPart}
use Rattle.device_state.specs.device_rules.specs.Settings.{host_counts, manager_flags, page, region_seen}
use Rattle.fm_payloads.specs.ManagerPayloads.{regions_head}
use Rattle.host_payloads.specs.{HostPayloads.counts_bytes, HostPayloads.region_bytes, declared.views.RegionView.RegionView}
use Rattle.extent_list.specs.media_map.specs.region_config.specs.{Configurations.Configuration, Granules.regions_of}
use Rattle.manager_commands.proofs.{ListPages.flat_map-map, Reached.blocks_long}
use Rattle.manager_commands.proofs.get_host_dc_region_configuration.payload_of.Goals as goal

pub returns : goal.returns
returns c d v is lists =
    let rs : List ℕ = page c.args.first c.args.count (regions_of d) in
    let seen : ℕ → RegionView = region_seen d c.args.host v manager_flags in
    let views : c.as_slice-views.result.now ≡ map seen rs = c.as_slice-views.ensures.value ∙ c.regions_seen-seen.ensures d v is in
    let regions : c.regions.result ≡ length d.regions = c.regions.ensures.value ∙ ap (λ (e : Configuration). length e.regions) is ∙ blocks_long d v.block in
    let many : length c.as_slice-views.result.now ≡ length rs = ap length views ∙ length-map rs seen in
    let counts : c.counts_bytes.result ≡ counts_bytes (host_counts v) =
    c.counts_bytes.ensures ∙ ap counts_bytes (c.host_counts-counts.ensures v (ap (λ (p : HostPart). p.lists) c.part.ensures ∙ lists)) in
    let head : c.extend_from_slice.new.self ≡ regions_head c.args.host (length d.regions) (length rs) =
    c.in_ok-extend_from_slice.ensures.extended ∙ ap (λ bytes. bytes ++ c.regions_head-head.result) c.in_ok-payload.ensures ∙ c.regions_head-head.ensures ∙ (λ i. regions_head c.args.host (regions i) (many i)) in
    c.in_ok-extend_from_slice-2.ensures.extended
    ∙ (λ i. c.in_ok-append_regions.ensures i ++ counts i)
    ∙ (λ i. (head i ++ flat_map region_bytes (views i)) ++ counts_bytes (host_counts v))
    ∙ ap (λ bytes. (regions_head c.args.host (length d.regions) (length rs) ++ bytes) ++ counts_bytes (host_counts v)) (flat_map-map region_bytes seen rs)
