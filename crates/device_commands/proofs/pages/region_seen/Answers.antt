use Rattle.std.proofs.Common.{◌<◌, length, ap, ◌∙◌, arith}
use Rattle.extent_list.specs.media_map.specs.region_config.specs.Configurations.{Configuration}
use Rattle.device_rules.proofs.Homes.{regions_same}
use Rattle.device_commands.{specs.ShownFlags.flags_of as flags_shown, proofs.ShownRegions.shown, proofs.ShownRegions.shown_same}
use Rattle.device_commands.proofs.pages.region_seen.Goals as goal

pub returns : goal.returns
returns c = λ cfg v is.
    let known : c.args.region < length cfg.regions = omega (arith, c.requires.region, ap (λ (p : Configuration). length p.regions) is, regions_same cfg v.block) in
    let spec = c.region-spec.ensures.value in
    let flags = c.flags_of.ensures ∙ ap (flags_shown c.args.flags) c.region-spec.ensures.value in
    (λ i. record {
      base = c.base.ensures.value i;
      decode_units = (spec i).decode_units;
      length = (spec i).length;
      block = (spec i).block;
      handle = (spec i).handle;
      flags = flags i;
    })
    ∙ ap (λ p. shown p c.args.host c.args.flags c.args.region) is
    ∙ shown_same cfg c.args.host v c.args.flags c.args.region known
