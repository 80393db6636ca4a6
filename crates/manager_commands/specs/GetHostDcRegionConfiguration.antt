-- What is replied of the regions of a host, 5601h.
use Rattle.std.specs.Prelude.{◌≡◌, ℕ, List}
use Rattle.extent_list.specs.media_map.specs.region_config.specs.{Configurations.Configuration, Granules.with_blocks}
use Rattle.device_state.specs.{device_rules.specs.Settings.regions_reply, device_rules.specs.Views.View, device_rules.specs.Views.lists_in, StateAfter.part_of, declared.state.State.State}

-- The payload is the reply, for each configuration and view that the present blocks and the lists of the host show.
abbrev pub IsRegionsReply : State → ℕ → ℕ → ℕ → List ℕ → Type 0
IsRegionsReply s h count first payload = (c : Configuration) (v : View) → s.present ≡ with_blocks c v.block → (part_of s h).lists ≡ lists_in v →
    payload ≡ regions_reply c (λ _. v) h count first
