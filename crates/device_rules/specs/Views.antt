-- What one host can see, and how an entry changes it.
use Rattle.std.specs.Prelude.{◌%◌, ◌^◌, ℕ, ◌+◌, ◌-◌, List, [], ◌++◌, length, flat_map, fold, if◌then◌else◌}
use Rattle.cci_codec.specs.dcd_base.specs.{Limits.extents_supported, Limits.tags_supported, declared.ids.HostId.HostId, declared.capacity.Extent.Extent, declared.steps.LogId.LogId}
use Rattle.std.specs.List.{list_any}
use Rattle.extent_list.specs.{media_map.specs.region_config.specs.Configurations.Configuration, media_map.specs.region_config.specs.Granules.region_spec, ExtentLists.real_tags, HostLists.Lists}
use Rattle.journal_core.specs.{declared.outcome.HeldKind.HeldKind, declared.outcome.Effect.Effect, declared.entries.Entry.Entry, Entries.effects}
use Rattle.device_rules.specs.Hosts.{offers_after, offers_of, accepted_after, accepted_of, moves, changes_of, held_after, held_of, block_after, block_of}
use Rattle.event_log.specs.Logs.{Log, empty_log}
use Rattle.device_rules.specs.Logs.{log_after, log_of}

-- all that the answers to one host's commands depend on, beside the configuration
pub record View : Type 0 where
  pub offers : List (List Extent)
  pub accepted : List Extent
  pub changes : ℕ
  pub responses : List Extent
  pub releases : List Extent
  pub log : Log
  pub block : ℕ → ℕ

abbrev pub view_of : Configuration → HostId → List Entry → View
view_of c h journal = let past = effects journal in record {
  offers = offers_of h past;
  accepted = accepted_of c h past;
  changes = changes_of h journal;
  responses = held_of h HeldKind.Responses past;
  releases = held_of h HeldKind.Releases past;
  log = log_of (LogId.Host h) past;
  block = λ r. block_of c r past;
}

-- the number of changes that replies give
abbrev pub generation_in : View → ℕ
generation_in v = v.changes % 2 ^ 32

-- the view after one more entry with these effects
abbrev pub view_after : Configuration → HostId → View → List Effect → View
view_after c h v new = record {
  offers = fold (offers_after h) v.offers new;
  accepted = fold (accepted_after c h) v.accepted new;
  changes = if list_any (moves h) new then v.changes + 1 else v.changes;
  responses = fold (held_after h HeldKind.Responses) v.responses new;
  releases = fold (held_after h HeldKind.Releases) v.releases new;
  log = fold (log_after (LogId.Host h)) v.log new;
  block = λ r. fold (block_after r) (v.block r) new;
}

-- a host with nothing yet
abbrev pub first_view : Configuration → View
first_view c = record {
  offers = [];
  accepted = [];
  changes = 0;
  responses = [];
  releases = [];
  log = empty_log;
  block = λ r. (region_spec c r).block;
}

-- all extents that the host has accepted or is offered
abbrev pub extents_in : View → List Extent
extents_in v = v.accepted ++ flat_map (λ xs. xs) v.offers

-- how many more extents and tags the host may get
abbrev pub extents_available : View → ℕ
extents_available v = extents_supported - length (extents_in v)

abbrev pub tags_available : View → ℕ
tags_available v = tags_supported - length (real_tags (extents_in v))

-- the lists that a view shows
abbrev pub lists_in : View → Lists
lists_in v = record {
  accepted = v.accepted;
  offers = v.offers;
  responses = v.responses;
  releases = v.releases;
  generation = generation_in v;
}
