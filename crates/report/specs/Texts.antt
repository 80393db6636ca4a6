-- What is printed of a journal.
use Rattle.std.specs.Prelude.{ℕ, List, [], ◌∷◌, ◌++◌, length, flat_map, codes, decimal}
use Rattle.std.specs.{List.enumerate_from, Int.w64, Int.to_be_bytes}
use Rattle.hex.specs.Hex.{encode_lower}
use Rattle.dcd_base.specs.declared.{ids.HostId.HostId, steps.Actor.Actor, steps.LogId.LogId, failures.AccessFault.AccessFault}
use Rattle.event_records.specs.{declared.events.Event.Event, Records.record_bytes}
use Rattle.cci_codec.specs.Messages.{response_bytes}
use Rattle.region_config.specs.{Configurations.Configuration, Granules.hosts_of}
use Rattle.journal_core.specs.{Entries.effects, Seen.kind_of, declared.acts.Act.Act, declared.acts.Reply.Reply, declared.entries.Entry.Entry, declared.outcome.Effect.Effect}
use Rattle.journal_core.specs.declared.seen.ActKind.{ActKind}
use Rattle.control_core.specs.device_rules.specs.Counts.{dirty_count, extent_count, free_count, granules_held, missed_of, records_of}

-- a word that is not the first of its line
abbrev pub next_word : List ℕ → List ℕ
next_word word = 32 ∷ word

-- the words behind the first, and the end of the line
abbrev pub rest_of_line : List (List ℕ) → List ℕ
rest_of_line [] = 10 ∷ []
rest_of_line (word ∷ words) = next_word word ++ rest_of_line words

-- a line of words, with a space between two
abbrev pub line_of : List (List ℕ) → List ℕ
line_of [] = 10 ∷ []
line_of (word ∷ words) = word ++ rest_of_line words

abbrev pub host_name : HostId → List ℕ
host_name h = codes "h" ++ decimal h

abbrev pub actor_name : Actor → List ℕ
actor_name (Actor.Host h) = host_name h
actor_name Actor.Manager = codes "fm"
actor_name Actor.Sanitizer = codes "sz"

abbrev pub fault_number : AccessFault → ℕ
fault_number AccessFault.Misaligned = 1
fault_number AccessFault.OutsideRegions = 2
fault_number AccessFault.NotGranted = 3

-- ---- an entry: its number, its line, its actor and its answer

-- how the kinds of acts are called, and with them the acts
abbrev pub kind_name : ActKind → List ℕ
kind_name ActKind.Command = codes "cmd"
kind_name ActKind.Load = codes "ld"
kind_name ActKind.Store = codes "st"
kind_name ActKind.Scrub = codes "sc"

abbrev pub act_name : Act → List ℕ
act_name act = kind_name (kind_of act)

abbrev pub reply_words : Reply → List (List ℕ)
reply_words (Reply.Answer s) = encode_lower (response_bytes s) ∷ []
reply_words (Reply.Word n) = encode_lower (to_be_bytes w64 n) ∷ []
reply_words Reply.Stored = codes "ok" ∷ []
reply_words (Reply.Refused fault) = codes "refused" ∷ decimal (fault_number fault) ∷ []
reply_words (Reply.Scrubbed n) = decimal n ∷ []

-- the line of an entry and its number: who did what, for which line of the script, and the reply
unfoldable pub entry_line : ℕ × Entry → List ℕ
entry_line (n, e) = line_of (decimal n ∷ decimal e.line ∷ actor_name e.actor ∷ act_name e.act ∷ reply_words e.reply)

unfoldable pub entry_lines : List Entry → List ℕ
entry_lines journal = flat_map entry_line (enumerate_from 1 journal)

-- ---- the records that are left in the logs

abbrev pub log_name : LogId → List ℕ
log_name (LogId.Host h) = host_name h
log_name LogId.Manager = codes "fm"

unfoldable pub record_line : LogId → Event → List ℕ
record_line l event = line_of (codes "rec" ∷ log_name l ∷ encode_lower (record_bytes event) ∷ [])

unfoldable pub record_lines : List Effect → LogId → List ℕ
record_lines past l = flat_map (record_line l) (records_of l past)

-- the records of hosts in order, in each log the oldest first
unfoldable pub shown_host_records : Configuration → List Effect → List ℕ
shown_host_records c past = flat_map (λ h. record_lines past (LogId.Host h)) (hosts_of c)

-- those of hosts, then those of the manager
unfoldable pub all_records : Configuration → List Effect → List ℕ
all_records c past = shown_host_records c past ++ record_lines past LogId.Manager

-- ---- the state

unfoldable pub host_line : Configuration → List Effect → HostId → List ℕ
host_line c past h = line_of (
    codes "host" ∷ host_name h
    ∷ codes "extents" ∷ decimal (extent_count c h past)
    ∷ codes "granules" ∷ decimal (granules_held c h past)
    ∷ codes "log" ∷ decimal (length (records_of (LogId.Host h) past)) ∷ [])

unfoldable pub host_lines : Configuration → List Effect → List ℕ
host_lines c past = flat_map (host_line c past) (hosts_of c)

unfoldable pub manager_line : List Effect → List ℕ
manager_line past = line_of (
    codes "fm"
    ∷ codes "log" ∷ decimal (length (records_of LogId.Manager past))
    ∷ codes "missed" ∷ decimal (missed_of LogId.Manager past) ∷ [])

unfoldable pub granules_line : Configuration → List Effect → List ℕ
granules_line c past = line_of (
    codes "granules"
    ∷ codes "free" ∷ decimal (free_count c past)
    ∷ codes "dirty" ∷ decimal (dirty_count c past) ∷ [])

unfoldable pub end_line : ℕ → List ℕ
end_line n = line_of (codes "end" ∷ decimal n ∷ [])

-- that these effects leave, behind so many entries
unfoldable pub state_lines : Configuration → List Effect → ℕ → List ℕ
state_lines c past count = host_lines c past ++ manager_line past ++ granules_line c past ++ end_line count

-- the version of the form is 1
unfoldable pub first_line : List ℕ
first_line = line_of (codes "dcd" ∷ codes "1" ∷ [])

-- The text of a journal, and its summary.
unfoldable pub text : Configuration → List Entry → List ℕ
text c journal = first_line ++ entry_lines journal ++ all_records c (effects journal) ++ state_lines c (effects journal) (length journal)

unfoldable pub summary : Configuration → List Entry → List ℕ
summary c journal = first_line ++ state_lines c (effects journal) (length journal)
