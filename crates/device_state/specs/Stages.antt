-- What the effects of a step make of the hosts' parts: first of the logs, and then of lists and tags.
use Rattle.std.specs.{Prelude.◌≡◌, Prelude.◌<◌, Prelude.Bool, Prelude.List, Prelude.false, Prelude.fold, Prelude.length, Prelude.slice_index_or, List.list_any}
use Rattle.device_rules.specs.Hosts.{moves}
use Rattle.cci_codec.specs.dcd_base.specs.declared.{ids.HostId.HostId, steps.LogId.LogId}
use Rattle.extent_list.specs.{HostLists.Lists, media_map.specs.region_config.specs.Configurations.Configuration}
use Rattle.journal_core.specs.declared.outcome.Effect.{Effect}
use Rattle.device_state.specs.{Entered.log_by, EnteredLists.all_lists_by, EnteredLists.all_lists_over, EnteredLists.counted, EnteredLists.lists_of, EnteredLists.table_by, EnteredLists.tags_over}
use Rattle.device_state.specs.{StateAfter.part_of, declared.state.State.State}

-- The logs are changed by an effect, or by more of them, and no lists.
pub record ArePartsAfter (e : Effect) (old now : State) : Type 0 where
  pub hosts : length now.hosts.items ≡ length old.hosts.items
  pub manager : now.manager ≡ log_by LogId.Manager old.manager e
  pub logs : (h : HostId) → h < length old.hosts.items → (part_of now h).log ≡ log_by (LogId.Host h) (part_of old h).log e
  pub lists : (h : HostId) → h < length old.hosts.items → (part_of now h).lists ≡ (part_of old h).lists

pub record PartsOver (new : List Effect) (old now : State) : Type 0 where
  pub hosts : length now.hosts.items ≡ length old.hosts.items
  pub manager : now.manager ≡ fold (log_by LogId.Manager) old.manager new
  pub logs : (h : HostId) → h < length old.hosts.items → (part_of now h).log ≡ fold (log_by (LogId.Host h)) (part_of old h).log new
  pub lists : (h : HostId) → h < length old.hosts.items → (part_of now h).lists ≡ (part_of old h).lists

-- Each host's lists are these, and nothing else of any host is changed.
pub record AreListed (lists : HostId → Lists) (old now : State) : Type 0 where
  pub hosts : length now.hosts.items ≡ length old.hosts.items
  pub lists_are : lists_of now ≡ lists
  pub logs : (h : HostId) → (part_of now h).log ≡ (part_of old h).log

-- Lists and tags are changed by an effect, or by more of them.
pub record IsListedAfter (c : Configuration) (e : Effect) (old now : State) : Type 0 where
  pub listed : AreListed (all_lists_by c (lists_of old) e) old now
  pub tags : now.tags.entries ≡ table_by c (lists_of old) old.tags.entries e

pub record IsListedOver (c : Configuration) (new : List Effect) (old now : State) : Type 0 where
  pub listed : AreListed (all_lists_over c (lists_of old) new) old now
  pub tags : now.tags.entries ≡ tags_over c (lists_of old) old.tags.entries new

-- It is counted of each host where the effects changed its accepted list, and nothing else of any host is changed.
pub record AreCounted (new : List Effect) (old now : State) : Type 0 where
  pub hosts : length now.hosts.items ≡ length old.hosts.items
  pub lists : (h : HostId) → h < length old.hosts.items → lists_of now h ≡ counted h new (lists_of old h)
  pub logs : (h : HostId) → (part_of now h).log ≡ (part_of old h).log

-- Of each host it is marked whether an effect changes what it has accepted.
pub record AreMoved (new : List Effect) (marks : List Bool) : Type 0 where
  pub all : length marks ≡ 256
  pub each : (h : HostId) → h < 256 → slice_index_or marks h false ≡ list_any (moves h) new
