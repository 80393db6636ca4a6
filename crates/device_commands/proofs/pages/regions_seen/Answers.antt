use Rattle.std.proofs.Common.{◌≡◌, ◌-◌, ◌≤◌, ℕ, [], ◌∷◌, ◌++◌, length, map, ap, sym, ◌∙◌, arith}
use Rattle.std.{proofs.lemmas.List.length_push, specs.List.range_with_len}
use Rattle.extent_list.specs.media_map.specs.region_config.specs.Configurations.{Configuration}
use Rattle.host_payloads.specs.declared.views.RegionView.{RegionView}
use Rattle.device_rules.{specs.Settings.region_seen, proofs.Homes.regions_same}
use Rattle.device_commands.{specs.ShownFlags.flags_of as flags_shown, proofs.RegionPages.page_done, proofs.RegionPages.page_more}
use Rattle.device_commands.proofs.pages.regions_seen.Goals as goal

pub loop-region-preserved : goal.loop-region-preserved
loop-region-preserved c =
    let from : c.args.first ≤ c.loop-region.region = omega (arith, c.loop-region.auto.region) in
    record {
      seen = λ cfg v is. (let f : ℕ → RegionView = region_seen cfg c.args.host v (flags_shown c.args.flags) in
          c.push.ensures
          ∙ ap (λ xs. xs ++ c.region_seen.result ∷ []) (c.loop-region.invariant.seen cfg v is)
          ∙ ap (λ view. map f (range_with_len c.args.first (c.loop-region.region - c.args.first)) ++ view ∷ []) (c.region_seen.ensures cfg v is)
          ∙ sym (page_more f c.args.first c.loop-region.region from));
      few = ap length c.push.ensures ∙ omega (arith, length_push c.loop-region.views c.region_seen.result, c.loop-region.invariant.few, from);
    }

pub returns : goal.returns
returns c = λ cfg v is.
    let f : ℕ → RegionView = region_seen cfg c.args.host v (flags_shown c.args.flags) in
    let first_end : c.args.first ≤ c.max-end.result = omega (arith, c.max-end.ensures) in
    let at_end : c.loop-region.region ≡ c.max-end.result = omega (arith, c.loop-region-test.false, c.loop-region.auto.region-end first_end) in
    let regions = ap (λ (p : Configuration). length p.regions) is ∙ regions_same cfg v.block in
    c.loop-region.invariant.seen cfg v is
    ∙ page_done f c.args.first c.args.count (length cfg.regions) c.loop-region.region
    (omega (arith, at_end, regions, c.max-end.ensures, c.min.ensures, c.saturating_add.ensures, c.regions-regions.ensures.value, c.regions-regions.ensures.few))
