-- What of a region is in use, what another block size breaks, and what hosts are told of it, 5602h.
use Rattle.event_records.specs.dcd_base.specs.{Words.flag_of, Words.◌or◌, declared.ids.HostId.HostId, declared.steps.LogId.LogId}
use Rattle.event_records.specs.declared.events.{Event.Event, EventKind.EventKind}
use Rattle.extent_list.specs.dcd_codes.specs.{Rules.◌breaks◌, Rules.each_in, declared.rules.Rule.Rule}
use Rattle.extent_list.specs.media_map.specs.region_config.specs.Granules.{first_granule, region_granules, is_supported, hosts_of}
use Rattle.extent_list.specs.media_map.specs.region_config.specs.declared.region_spec.RegionSpec.{RegionSpec}
use Rattle.device_state.specs.{StateAfter.part_of, declared.state.State.State, device_rules.specs.Outcomes.no_extent, device_rules.specs.Outcomes.record_for, device_rules.specs.Outcomes.log_full}
use Rattle.device_state.specs.device_rules.specs.{Settings.set_outcome, Views.View}
use Rattle.event_log.specs.Logs.{IsLogOf}
use Rattle.selection.specs.granule_map.specs.StateLists.{is_free_at}
use Rattle.std.specs.List.{range_with_len}
use Rattle.std.specs.Prelude.{◌≡◌, ℕ, ◌<◌, Bool, List, [], Option, count_by, false, not, ◌==◌, nat_lt, ◌∷◌, map}
use Rattle.device_commands.specs.{Drafts.Informs, declared.draft.Draft.Draft, declared.log_records.LogRecords.LogRecords, declared.log_records.Told.Told}

-- how many of the region's granules are not free
abbrev pub used_in : State → ℕ → ℕ
used_in s r = count_by (λ g. not (is_free_at s.granules.states g)) (range_with_len (first_granule s.present r) (region_granules s.present r))

-- the rules of a block size, where so many granules are in use
abbrev pub size_rule : RegionSpec → ℕ → Bool → ℕ → Option Rule
size_rule spec size sanitize used =
    not (is_supported spec size) breaks Rule.NotSupportedSize size
    or not (flag_of sanitize == flag_of spec.sanitize) breaks Rule.SanitizeDiffers
    or nat_lt 0 used breaks Rule.RegionInUse used

-- a host is told of the region
abbrev pub region_record : (HostId → View) → ℕ → HostId → LogId × List Event
region_record view_for r h = (LogId.Host h, record (record_for h (view_for h) EventKind.RegionUpdated false no_extent) { region = r } ∷ [])

-- The logs that are kept are those of these views.
abbrev pub LogsAreOf : State → (HostId → View) → Type 0
LogsAreOf s view_for = (h : HostId) → h < s.present.hosts → IsLogOf (LogId.Host h) (view_for h).log (part_of s h).log

-- It is the rule of the first host whose log is full.
abbrev pub IsFirstFull : State → Option Rule → Type 0
IsFirstFull s found = (view_for : HostId → View) → LogsAreOf s view_for → found ≡ each_in (hosts_of s.present) (λ before h. log_full h (view_for h).log 1)

-- a host is told, and so are all hosts
abbrev pub told_to : ℕ → HostId → LogRecords
told_to r h = record { log = LogId.Host h; host = h; told = Told.Region r }

abbrev pub told_to_all : ℕ → List HostId → List LogRecords
told_to_all r hosts = map (told_to r) hosts

-- The draft gives the region other blocks, and tells all hosts.
abbrev pub IsSet : State → ℕ → ℕ → Draft → Type 0
IsSet s r size d = (view_for : HostId → View) → Informs s.present.hosts view_for (set_outcome s.present view_for r size) d
