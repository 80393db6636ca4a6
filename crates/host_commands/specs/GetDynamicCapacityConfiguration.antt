-- What is answered of a host's regions, 4800h.
use Rattle.std.specs.{Prelude.◌≡◌, Prelude.ℕ, declared.result.Result.Result}
use Rattle.cci_codec.specs.dcd_base.specs.declared.ids.HostId.{HostId}
use Rattle.extent_list.specs.{HostLists.Lists, dcd_codes.specs.Rules.ByRow, dcd_codes.specs.declared.refusals.Refusal.Refusal, media_map.specs.region_config.specs.Configurations.Configuration}
use Rattle.extent_list.specs.media_map.specs.region_config.specs.Granules.{with_blocks}
use Rattle.device_commands.specs.{Drafts.IsOutcome, declared.draft.Draft.Draft, device_rules.specs.Outcomes.only}
use Rattle.device_commands.specs.device_rules.specs.{Settings.configuration_reply, Settings.no_such_region, Views.View, Views.lists_in}

-- By its row, for each configuration and view that the present blocks and the lists show.
abbrev pub AnswersConfiguration : Configuration → HostId → Lists → ℕ → ℕ → Result Draft Refusal → Type 0
AnswersConfiguration present h lists count first result = (c : Configuration) (v : View) → present ≡ with_blocks c v.block → lists ≡ lists_in v →
    ByRow (no_such_region c first) (IsOutcome (only (configuration_reply c h v count first))) result
