-- What a release that ends changes and tells, 4803h.
use Rattle.std.specs.Prelude.{◌≡◌, ◌++◌, Bool, false, List}
use Rattle.cci_codec.specs.dcd_base.specs.declared.{capacity.Extent.Extent, ids.HostId.HostId, steps.LogId.LogId}
use Rattle.event_records.specs.declared.events.EventKind.{EventKind}
use Rattle.extent_list.specs.{ExtentLists.tags_of, HostLists.Lists, media_map.specs.region_config.specs.Configurations.Configuration, media_map.specs.region_config.specs.Granules.with_blocks}
use Rattle.journal_core.specs.declared.outcome.{Effect.Effect, HeldKind.HeldKind}
use Rattle.device_commands.specs.{Drafts.Drafts, ListDrafts.Tells, declared.draft.Draft.Draft, device_rules.specs.Outcomes.records_of_extents}
use Rattle.device_commands.specs.device_rules.specs.{ReleaseOutcomes.give_back_outcome, ReleaseOutcomes.removals, ResponseOutcomes.unhold, Views.View, Views.lists_in}

-- what a release changes: what is held goes, and the extents leave
abbrev pub release_changes : Configuration → HostId → Lists → List Extent → List Effect
release_changes p h l leaving = unhold h HeldKind.Releases l.releases ++ removals p h false leaving

-- The extents leave the host, which had these lists.
abbrev pub IsReleased : Configuration → HostId → Lists → List Extent → Draft → Type 0
IsReleased p h before leaving d =
    Tells (release_changes p h before leaving) (tags_of leaving) LogId.Manager (λ w. records_of_extents h w EventKind.Released leaving) d

-- By each view that shows these present blocks and lists, the draft is what the release does, where it breaks no rule.
abbrev pub GivesBack : Configuration → HostId → Lists → Bool → List Extent → Draft → Type 0
GivesBack p h lists more list d = (c : Configuration) (v : View) → p ≡ with_blocks c v.block → lists ≡ lists_in v →
    Drafts c h v (give_back_outcome c h v more list) d
