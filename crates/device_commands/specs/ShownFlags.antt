-- Which flags of a region are shown.
use Rattle.std.specs.Prelude.{ℕ, ◌≡◌, List, map}
use Rattle.extent_list.specs.media_map.specs.region_config.specs.{declared.region_spec.RegionSpec.RegionSpec, Configurations.Configuration, Granules.regions_of, Granules.with_blocks}
use Rattle.device_rules.specs.{Settings.host_flags, Settings.manager_flags, Settings.page, Settings.region_seen, Views.View}
use Rattle.device_commands.specs.declared.pages.Flags.{Flags}
use Rattle.cci_codec.specs.dcd_base.specs.declared.ids.HostId.{HostId}
use Rattle.host_payloads.specs.declared.views.RegionView.{RegionView}

abbrev pub flags_of : Flags → RegionSpec → ℕ
flags_of Flags.OfHost spec = host_flags spec
flags_of Flags.OfManager spec = manager_flags spec

-- These are so many regions from the first on as they are shown, for each configuration and view that the present blocks show.
abbrev pub AreSeen : Configuration → HostId → Flags → ℕ → ℕ → List RegionView → Type 0
AreSeen present h flags count first views = (c : Configuration) (v : View) → present ≡ with_blocks c v.block →
    views ≡ map (region_seen c h v (flags_of flags)) (page first count (regions_of c))
