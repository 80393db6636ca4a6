-- What a draft is: the outcome of a command.
use Rattle.std.specs.Prelude.{◌≡◌, ◌<◌, All, List, [], ◌∷◌, false, map}
use Rattle.cci_codec.specs.dcd_base.specs.declared.{ids.HostId.HostId, steps.LogId.LogId}
use Rattle.event_records.specs.declared.events.{Event.Event, EventKind.EventKind}
use Rattle.extent_list.specs.{media_map.specs.region_config.specs.Configurations.Configuration, HostLists.Lists}
use Rattle.device_rules.specs.{Outcomes.Outcome, Outcomes.no_extent, Outcomes.record_for, Outcomes.records_of_extents, Views.View, Views.view_after}
use Rattle.device_commands.specs.declared.{draft.Draft.Draft, log_records.LogRecords.LogRecords, log_records.Told.Told}

-- what is told of a host that has this view: of each extent, or of a region
abbrev pub told_by : HostId → View → Told → List Event
told_by h v (Told.Extents kind xs) = records_of_extents h v kind xs
told_by h v (Told.Region r) = record (record_for h v EventKind.RegionUpdated false no_extent) { region = r } ∷ []

-- records as a log and what is told to it, where their host has this view
abbrev pub as_records : View → LogRecords → LogId × List Event
as_records v n = (n.log, told_by n.host v n.told)

-- The lists have the extents that the view shows.
pub record HasExtentsOf (v : View) (l : Lists) : Type 0 where
  pub accepted : l.accepted ≡ v.accepted
  pub offers : l.offers ≡ v.offers

-- The draft is this outcome, by which the lists of this host alone may change, and tells what the host has once they have.
pub record Drafts (c : Configuration) (h : HostId) (v : View) (o : Outcome) (d : Draft) : Type 0 where
  pub payload : d.payload ≡ o.payload
  pub changes : d.changes ≡ o.changes
  pub tags : d.tags ≡ o.tags
  pub log_records : map (as_records (view_after c h v o.changes)) d.log_records ≡ o.log_records

-- The draft is this outcome, which changes no lists, and tells what hosts have of whom so many there are.
pub record Informs (hosts : HostId) (view_for : HostId → View) (o : Outcome) (d : Draft) : Type 0 where
  pub payload : d.payload ≡ o.payload
  pub changes : d.changes ≡ o.changes
  pub tags : d.tags ≡ o.tags
  pub log_records : map (λ (n : LogRecords). as_records (view_for n.host) n) d.log_records ≡ o.log_records
  pub known : All (λ (n : LogRecords). n.host < hosts) d.log_records

-- The draft is this outcome, which changes no lists and tells nothing.
pub record IsOutcome (o : Outcome) (d : Draft) : Type 0 where
  pub payload : d.payload ≡ o.payload
  pub changes : d.changes ≡ o.changes
  pub tags : d.tags ≡ o.tags
  pub log_records : d.log_records ≡ []
  pub untold : o.log_records ≡ []
