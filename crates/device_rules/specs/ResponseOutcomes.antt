-- What a host's response to its oldest offer does: 4802h.
use Rattle.std.specs.Prelude.{Bool, false, List, [], ◌∷◌, ◌++◌, map, if◌then◌else◌}
use Rattle.cci_codec.specs.dcd_base.specs.declared.{ids.HostId.HostId, capacity.Extent.Extent, steps.LogId.LogId}
use Rattle.event_records.specs.declared.events.{EventKind.EventKind, Event.Event}
use Rattle.extent_list.specs.{media_map.specs.region_config.specs.Configurations.Configuration, media_map.specs.Places.run_of, ExtentLists.tags_of, ExtentLists.marked}
use Rattle.journal_core.specs.declared.outcome.{HeldKind.HeldKind, Effect.Effect}
use Rattle.device_rules.specs.{Views.View, Views.view_after, Outcomes.Outcome, Outcomes.record_for, Outcomes.records_of_extents, Outcomes.no_extent}
use Rattle.offer_core.specs.Offerings.{oldest_of}

abbrev pub hold : HostId → HeldKind → List Extent → List Effect
hold h kind [] = []
hold h kind (x ∷ xs) = Effect.Hold h kind (x ∷ xs) ∷ []

abbrev pub unhold : HostId → HeldKind → List Extent → List Effect
unhold h kind [] = []
unhold h kind (x ∷ xs) = Effect.Unhold h kind ∷ []

-- the offer is answered by this list, and each of its extents is taken
abbrev pub answered : Configuration → HostId → List (List Extent) → List Extent → List Effect
answered c h [] all = []
answered c h (offer ∷ later) all = Effect.Answer h (map (marked offer) all) ∷ map (λ x. Effect.Take h (run_of c h x)) all

-- the manager is told of each extent, or of one zero extent where none was taken
abbrev pub response_records : Configuration → HostId → View → List (List Extent) → List Extent → List (LogId × List Event)
response_records c h v [] all = []
response_records c h v (offer ∷ later) [] = (LogId.Manager, record_for h v EventKind.AddResponse false no_extent ∷ []) ∷ []
response_records c h v (offer ∷ later) (x ∷ xs) = (LogId.Manager, records_of_extents h v EventKind.AddResponse (map (marked offer) (x ∷ xs))) ∷ []

abbrev pub respond_changes : Configuration → HostId → List (List Extent) → List Extent → Bool → List Extent → List Effect
respond_changes c h offers held more list =
    if more then hold h HeldKind.Responses list
    else unhold h HeldKind.Responses held ++ answered c h offers (held ++ list)

abbrev pub respond_outcome : Configuration → HostId → View → Bool → List Extent → Outcome
respond_outcome c h v more list = let changes = respond_changes c h v.offers v.responses more list in record {
  payload = [];
  changes = changes;
  tags = if more then [] else tags_of (oldest_of v.offers);
  log_records = if more then [] else response_records c h (view_after c h v changes) v.offers (v.responses ++ list);
}
