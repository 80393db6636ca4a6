-- What entering a step makes of what is kept, part by part.
use Rattle.std.specs.Prelude.{◌≡◌, ℕ, ◌<◌, nat_lt, List, [], fold, length, map, Option, Some, None, if◌then◌else◌, Bool, ◌&&◌, nat_le, slice_index_or, slice_set}
use Rattle.std.specs.List.{enumerate_from}
use Rattle.cci_codec.specs.dcd_base.specs.{Hosts.with_host, Hosts.without_host, Words.has_granule, declared.capacity.Extent.Extent, declared.capacity.Tag.Tag, declared.ids.HostId.HostId}
use Rattle.cci_codec.specs.dcd_base.specs.declared.{media.Run.Run, steps.LogId.LogId}
use Rattle.event_log.specs.LogStates.{LogState, with_missed, with_record, without_oldest}
use Rattle.event_records.specs.declared.events.Event.{Event}
use Rattle.device_rules.specs.{GranuleCells.cell_over, Logs.same_log}
use Rattle.granule_map.specs.Tables.{cell_at}
use Rattle.extent_list.specs.{HostLists.Lists, media_map.specs.region_config.specs.Blocks.with_block, media_map.specs.region_config.specs.Configurations.Configuration}
use Rattle.journal_core.specs.declared.outcome.Effect.{Effect}
use Rattle.offer_core.specs.Offerings.{oldest_of}
use Rattle.tag_refs.specs.{Tables.entry_with, declared.entries.TagEntry.TagEntry}
use Rattle.device_state.specs.{EnteredLists.counted, EnteredLists.lists_by, EnteredLists.lists_of, EnteredLists.tags_over, StateAfter.part_of, declared.parts.HostPart.HostPart}
use Rattle.device_state.specs.declared.state.State.{State}

-- each host's oldest offer, and the runs of the open tags
abbrev pub oldest_in : State → HostId → List Extent
oldest_in s h = oldest_of (part_of s h).lists.offers

abbrev pub runs_found : Option TagEntry → List Run
runs_found None = []
runs_found (Some e) = e.runs

abbrev pub runs_in : State → Tag → List Run
runs_in s t = runs_found (entry_with t s.tags.entries)

-- a log after one effect: a full log takes no record
abbrev pub put_in : LogState → Event → LogState
put_in log event = if nat_lt (length log.records) log.capacity then with_record log event else log

abbrev pub log_by : LogId → LogState → Effect → LogState
log_by l log (Effect.Logged k event) = if same_log k l then put_in log event else log
log_by l log (Effect.Missed k) = if same_log k l then with_missed log else log
log_by l log (Effect.Cleared k n) = if same_log k l then without_oldest n log else log
log_by l log (Effect.Reset k) = if same_log k l then record log { missed = 0 } else log
log_by l log e = log

-- the present configuration after one effect
abbrev pub present_by : Configuration → Effect → Configuration
present_by c (Effect.Block r size) = with_block c r size
present_by c e = c

-- the holders of the granules after one effect, by number
abbrev pub held_in : (ℕ → ℕ) → Run → List ℕ → List ℕ
held_in change run bits = map (λ b. if has_granule run b.0 then change b.1 else b.1) (enumerate_from 0 bits)

abbrev pub holders_by : List ℕ → Effect → List ℕ
holders_by bits (Effect.Take h run) = held_in (λ b. with_host b h) run bits
holders_by bits (Effect.Leave h run) = held_in (λ b. without_host b h) run bits
holders_by bits e = bits

-- Each part is changed by the effects.
pub record IsEntered (c : Configuration) (new : List Effect) (old now : State) : Type 0 where
  pub present_is : now.present ≡ fold present_by old.present new
  pub host_count : length now.hosts.items ≡ length old.hosts.items
  pub granule_count : length now.granules.states ≡ length old.granules.states
  pub cells : (g : ℕ) → g < length old.granules.states → cell_at now.granules g ≡ cell_over c (oldest_in old) (runs_in old) g (cell_at old.granules g) new
  pub holders_are : now.holders ≡ fold holders_by old.holders new
  pub manager_is : now.manager ≡ fold (log_by LogId.Manager) old.manager new
  pub logs : (h : HostId) → h < length old.hosts.items → (part_of now h).log ≡ fold (log_by (LogId.Host h)) (part_of old h).log new
  pub lists : (h : HostId) → h < length old.hosts.items → (part_of now h).lists ≡ counted h new (fold (lists_by c h) (part_of old h).lists new)
  pub tags_are : now.tags.entries ≡ tags_over c (lists_of old) old.tags.entries new

-- ---- one host's part

-- the parts of the hosts with another log of one, or other lists
abbrev pub with_log : State → HostId → LogState → List HostPart
with_log s h log = slice_set s.hosts.items h (record (part_of s h) { log = log })

abbrev pub with_lists : State → HostId → Lists → List HostPart
with_lists s h lists = slice_set s.hosts.items h (record (part_of s h) { lists = lists })

-- who holds a granule once a host holds those from the first up to the one before the end, or holds them no longer
abbrev pub bits_set : ℕ → ℕ → HostId → Bool → List ℕ → ℕ → ℕ
bits_set first end h held bits g =
    if nat_le first g && nat_lt g end then (if held then with_host (slice_index_or bits g 0) h else without_host (slice_index_or bits g 0) h)
    else slice_index_or bits g 0
