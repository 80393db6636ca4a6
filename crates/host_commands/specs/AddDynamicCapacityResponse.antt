-- What a response that is answered takes and tells, 4802h.
use Rattle.std.specs.Prelude.{◌≡◌, Bool, false, List, [], ◌∷◌, map, ◌++◌}
use Rattle.cci_codec.specs.dcd_base.specs.declared.{ids.HostId.HostId, capacity.Extent.Extent, steps.LogId.LogId}
use Rattle.event_records.specs.declared.events.{Event.Event, EventKind.EventKind}
use Rattle.extent_list.specs.{ExtentLists.tags_of, HostLists.Lists, media_map.specs.Places.run_of, media_map.specs.region_config.specs.Configurations.Configuration}
use Rattle.extent_list.specs.media_map.specs.region_config.specs.Granules.{with_blocks}
use Rattle.journal_core.specs.declared.outcome.{Effect.Effect, HeldKind.HeldKind}
use Rattle.device_commands.specs.{Drafts.Drafts, ListDrafts.Tells, declared.draft.Draft.Draft}
use Rattle.device_commands.specs.device_rules.specs.{Outcomes.no_extent, Outcomes.record_for, Outcomes.records_of_extents, ResponseOutcomes.respond_outcome, ResponseOutcomes.unhold}
use Rattle.device_commands.specs.device_rules.specs.Views.{View, lists_in}
use Rattle.offer_core.specs.Offerings.{oldest_of}

-- the host takes each of the extents
abbrev pub takes : Configuration → HostId → List Extent → List Effect
takes c h xs = map (λ x. Effect.Take h (run_of c h x)) xs

-- what is told of: each accepted extent, or one zero extent where none is accepted
abbrev pub told_extents : List Extent → List Extent
told_extents [] = no_extent ∷ []
told_extents (x ∷ xs) = x ∷ xs

-- the manager is told of each accepted extent, or of one zero extent where none is accepted
abbrev pub told_of : HostId → View → List Extent → List Event
told_of h w [] = record_for h w EventKind.AddResponse false no_extent ∷ []
told_of h w (x ∷ xs) = records_of_extents h w EventKind.AddResponse (x ∷ xs)

-- what an answer changes: what is held goes, and the host takes the extents
abbrev pub answer_changes : Configuration → HostId → Lists → List Extent → List Effect
answer_changes p h l accepted = unhold h HeldKind.Responses l.responses ++ Effect.Answer h accepted ∷ takes p h accepted

-- The oldest offer of the lists is answered with these extents.
abbrev pub IsAnswered : Configuration → HostId → Lists → List Extent → Draft → Type 0
IsAnswered p h before accepted d =
    Tells (answer_changes p h before accepted) (tags_of (oldest_of before.offers)) LogId.Manager (λ w. told_of h w accepted) d

-- By each view that shows these present blocks and lists, the draft is what the response does, where it breaks no rule.
abbrev pub Responds : Configuration → HostId → Lists → Bool → List Extent → Draft → Type 0
Responds p h lists more list d = (c : Configuration) (v : View) → p ≡ with_blocks c v.block → lists ≡ lists_in v →
    Drafts c h v (respond_outcome c h v more list) d
