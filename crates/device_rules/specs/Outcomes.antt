-- What a command does that breaks no rule.
use Rattle.cci_codec.specs.dcd_base.specs.{Words.zero_tag, Words.has_tag, Words.is_empty, declared.capacity.Extent.Extent, declared.capacity.Tag.Tag, declared.ids.HostId.HostId}
use Rattle.cci_codec.specs.dcd_base.specs.declared.steps.LogId.{LogId}
use Rattle.std.specs.Prelude.{ℕ, Bool, ◌&&◌, not, ◌==◌, List, [], ◌∷◌, ◌++◌, map, filter, flat_map, if◌then◌else◌, nat_lt, Option}
use Rattle.event_records.specs.declared.events.{EventKind.EventKind, Event.Event}
use Rattle.extent_list.specs.{media_map.specs.region_config.specs.Configurations.Configuration, dcd_codes.specs.declared.rules.Rule.Rule, dcd_codes.specs.Rules.◌breaks◌}
use Rattle.journal_core.specs.declared.outcome.Effect.{Effect}
use Rattle.event_log.specs.Logs.{Log, next_handle, room_in}
use Rattle.device_rules.specs.{Logs.log_after, Logs.log_of, Views.View, Views.extents_available, Views.tags_available, Tags.is_live, Tags.open_tags}

-- What it replies, what it changes, which tags may end by it, and what it tells to which log.
pub record Outcome : Type 0 where
  pub payload : List ℕ
  pub changes : List Effect
  pub tags : List Tag
  pub log_records : List (LogId × List Event)

-- a payload, and no more
abbrev pub only : List ℕ → Outcome
only payload = record { payload = payload; changes = []; tags = []; log_records = [] }

-- what is told of an extent, with what the host has available then; the log gives the handle
abbrev pub record_for : HostId → View → EventKind → Bool → Extent → Event
record_for h v kind more x = record {
  handle = 0;
  kind = kind;
  host = h;
  region = 0;
  more = more;
  extent = x;
  extents_available = extents_available v;
  tags_available = tags_available v;
}

-- one for each extent, and each says whether more come
abbrev pub records_of_extents : HostId → View → EventKind → List Extent → List Event
records_of_extents h v kind [] = []
records_of_extents h v kind (x ∷ xs) = record_for h v kind (not (is_empty xs)) x ∷ records_of_extents h v kind xs

abbrev pub no_extent : Extent
no_extent = record { start = 0; length = 0; tag = zero_tag; sequence = 0 }

-- a record goes into the log with the next handle, and a full log counts it as missed
abbrev pub entered : LogId → Log → Event → Effect
entered l log event =
    if room_in l log == 0 then Effect.Missed l
    else Effect.Logged l (record event { handle = next_handle log })

abbrev pub entered_all : LogId → Log → List Event → List Effect
entered_all l log [] = []
entered_all l log (event ∷ events) = entered l log event ∷ entered_all l (log_after l log (entered l log event)) events

-- the tags that end: they were open, and nothing keeps them alive now
abbrev pub ended : Configuration → List Effect → List Effect → List Tag → List Tag
ended c past changes tags = filter (λ t. has_tag (open_tags c past) t && not (is_live c t (past ++ changes))) tags

-- the effects: the changes, the ends of tags, the records
abbrev pub effects_of : Configuration → List Effect → Outcome → List Effect
effects_of c past o =
    o.changes ++ map Effect.TagEnd (ended c past o.changes o.tags) ++ flat_map (λ n. entered_all n.0 (log_of n.0 past) n.1) o.log_records

-- fewer places in the host's log than records that are due
abbrev pub log_full : HostId → Log → ℕ → Option Rule
log_full h log need = nat_lt (room_in (LogId.Host h) log) need breaks Rule.LogFull h need (room_in (LogId.Host h) log)
