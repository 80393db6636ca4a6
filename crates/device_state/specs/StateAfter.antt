-- That what the device keeps is what the journal says.
use Rattle.std.specs.Prelude.{◌≡◌, ℕ, ◌<◌, ◌≤◌, false, List, length, slice_index, slice_index_or}
use Rattle.cci_codec.specs.dcd_base.specs.{declared.ids.HostId.HostId, declared.steps.LogId.LogId, Hosts.has_host}
use Rattle.extent_list.specs.{HostLists.no_lists, media_map.specs.region_config.specs.Configurations.Configuration, media_map.specs.region_config.specs.Granules.granule_total}
use Rattle.extent_list.specs.media_map.specs.region_config.specs.Soundness.{IsSound}
use Rattle.event_log.specs.{LogStates.new_log, Logs.IsLogOf}
use Rattle.journal_core.specs.{Entries.effects, Holders.holds, declared.entries.Entry.Entry}
use Rattle.granule_map.specs.Tables.{cell_at}
use Rattle.device_rules.specs.{GranuleCells.IsCell, TagTable.IsTable, Adding.present, Legal.Legal, Logs.log_of, Views.View, Views.view_of, Views.lists_in}
use Rattle.device_state.specs.declared.{parts.HostPart.HostPart, state.State.State}

-- the part of a host that has nothing, and the part of a host by its number
abbrev pub no_part : HostPart
no_part = record { lists = no_lists; log = new_log 64 }

abbrev pub part_of : State → HostId → HostPart
part_of s h = slice_index_or s.hosts.items h no_part

-- What is kept of a host is what it sees.
pub record IsPart (h : HostId) (v : View) (part : HostPart) : Type 0 where
  pub lists_are : part.lists ≡ lists_in v
  pub log_is : IsLogOf (LogId.Host h) v.log part.log

-- Everything that is kept is what the entries so far say.
pub record IsStateAfter (c : Configuration) (journal : List Entry) (s : State) : Type 0 where
  pub present_is : s.present ≡ present c (effects journal)
  pub host_count : length s.hosts.items ≡ c.hosts
  pub parts : (h : HostId) → h < c.hosts → IsPart h (view_of c h journal) (part_of s h)
  pub manager_log : IsLogOf LogId.Manager (log_of LogId.Manager (effects journal)) s.manager
  pub granule_count : length s.granules.states ≡ granule_total c
  pub cells : (g : ℕ) → g < granule_total c → IsCell c (effects journal) g (cell_at s.granules g)
  pub holder_count : length s.holders ≡ granule_total c
  pub held : (g : ℕ) (h : HostId) → g < granule_total c → h < c.hosts → has_host (slice_index s.holders g) h ≡ holds h g (effects journal)
  pub no_others : (g : ℕ) (h : HostId) → g < granule_total c → c.hosts ≤ h → has_host (slice_index s.holders g) h ≡ false
  pub tags_are : IsTable c (effects journal) s.tags.entries

-- The state is one that a legal journal of the device leads to.
pub record IsReached (c : Configuration) (s : State) : Type 0 where
  pub journal : List Entry
  pub sound : IsSound c
  pub legal : Legal c journal
  pub kept : IsStateAfter c journal s
