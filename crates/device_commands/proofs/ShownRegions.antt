-- A region is shown the same by the configuration with the present blocks as by a view.
use Rattle.std.proofs.Common.{◌≡◌, ℕ, ◌<◌, ◌≤◌, Some, None, length, refl, ap, ◌∙◌}
use Rattle.std.proofs.lemmas.Bool.{le-leb, lt-leb}
use Rattle.cci_codec.specs.dcd_base.specs.declared.ids.HostId.{HostId}
use Rattle.extent_list.specs.{dcd_codes.specs.declared.rules.Rule.Rule, media_map.specs.region_config.proofs.PresentBlocks.region_spec-with_blocks}
use Rattle.extent_list.specs.media_map.specs.region_config.specs.{Configurations.Configuration, Granules.base_of, Granules.region_spec, Granules.with_blocks}
use Rattle.extent_list.specs.media_map.specs.region_config.specs.declared.region_spec.RegionSpec.{RegionSpec}
use Rattle.host_payloads.specs.declared.views.RegionView.{RegionView}
use Rattle.device_rules.{specs.Settings.no_such_region, specs.Settings.region_seen, specs.Views.View, proofs.Homes.base_same}
use Rattle.device_commands.specs.{declared.pages.Flags.Flags, ShownFlags.flags_of}

-- a region as a configuration alone shows it
abbrev pub shown : Configuration → HostId → Flags → ℕ → RegionView
shown c h flags r = let spec = region_spec c r in record {
  base = base_of c h r;
  decode_units = spec.decode_units;
  length = spec.length;
  block = spec.block;
  handle = spec.handle;
  flags = flags_of flags spec;
}

-- flags do not depend on the block
flags_same : (flags : Flags) (spec : RegionSpec) (n : ℕ) → flags_of flags (record spec { block = n }) ≡ flags_of flags spec
flags_same Flags.OfHost spec n = refl
flags_same Flags.OfManager spec n = refl

pub shown_same : (c : Configuration) (h : HostId) (v : View) (flags : Flags) (r : ℕ) → r < length c.regions
    → shown (with_blocks c v.block) h flags r ≡ region_seen c h v (flags_of flags) r
shown_same c h v flags r known =
    let spec : RegionSpec = region_spec c r in
    (λ i. let present = region_spec-with_blocks c v.block r known i in record {
      base = base_same c v.block h r i;
      decode_units = present.decode_units;
      length = present.length;
      block = present.block;
      handle = present.handle;
      flags = flags_of flags present;
    })
    ∙ ap (λ n. record { base = base_of c h r; decode_units = spec.decode_units; length = spec.length; block = v.block r; handle = spec.handle; flags = n })
    (flags_same flags spec (v.block r))

-- a region is known exactly below their number
pub region_past : (c : Configuration) (r : ℕ) → length c.regions ≤ r → no_such_region c r ≡ Some (Rule.NoSuchRegion r)
region_past c r past = rw (le-leb _ _ past) refl

pub region_known : (c : Configuration) (r : ℕ) → r < length c.regions → no_such_region c r ≡ None
region_known c r known = rw (lt-leb _ _ known) refl
