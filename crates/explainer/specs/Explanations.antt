-- What an explanation says of a script and a journal.
use Rattle.std.specs.Prelude.{ℕ, ◌-◌, List, [], ◌∷◌, ◌++◌, length, slice_get, Option, Some, None, codes, decimal}
use Rattle.std.specs.List.{flat_map}
use Rattle.dcd_base.specs.declared.{failures.AccessFault.AccessFault, ids.HostId.HostId, steps.LogId.LogId}
use Rattle.event_records.specs.{Records.record_bytes, declared.events.Event.Event}
use Rattle.region_config.specs.{Configurations.Configuration, Granules.hosts_of}
use Rattle.journal_core.specs.{declared.acts.Reply.Reply, declared.entries.Entry.Entry, declared.outcome.Effect.Effect, Entries.effects}
use Rattle.journal_check.specs.device_rules.specs.Counts.{dirty_count, extent_count, free_count, granules_held, missed_of, records_of}
use Rattle.journal_check.specs.report.specs.Texts.{host_name, log_name}
use Rattle.script_text.specs.{LinePrinting.printed_words, script_codec.specs.declared.script_line.Line.Line, script_codec.specs.declared.scripts.Script.Script, text_lines.specs.Words.line_text}
use Rattle.script_text.specs.text_lines.specs.declared.actors.Frame.{Frame}
use Rattle.explainer.specs.{PartWords.detail, PartWords.labelled, PartWords.labelled_size, RecordWords.record_words, ReplyWords.answer_lines}

-- ---- an entry: the line of the script that asked for it, and what was answered

-- what the head of the script says to its lines
abbrev pub script_frame : Script → Frame
script_frame s = record { version = s.version; hosts = s.config.hosts; lanes = s.lanes }

-- a line in the readable form, where there is one
abbrev pub line_explained : Frame → Option Line → List ℕ
line_explained frame (Some line) = line_text (printed_words frame line)
line_explained frame None = 10 ∷ []

-- why a load or a store was refused
abbrev pub access_refusal : AccessFault → List ℕ
access_refusal AccessFault.Misaligned = codes "refused: the address is no multiple of 8"
access_refusal AccessFault.OutsideRegions = codes "refused: no region of the host has the address"
access_refusal AccessFault.NotGranted = codes "refused: the host does not hold the address"

abbrev pub reply_explained : Reply → List ℕ
reply_explained (Reply.Answer response) = answer_lines response.opcode response.code response.payload
reply_explained (Reply.Word word) = detail (labelled_size (codes "word ") word)
reply_explained Reply.Stored = detail (codes "stored")
reply_explained (Reply.Refused fault) = detail (access_refusal fault)
reply_explained (Reply.Scrubbed count) = detail (labelled (codes "granules zeroed ") count)

-- the line of the script of this number, and a reply to it
unfoldable pub step_explained : Script → ℕ → Reply → List ℕ
step_explained s number reply =
    labelled [] number ++ codes "  " ++ line_explained (script_frame s) (slice_get s.lines (number - 1)) ++ reply_explained reply

abbrev pub entry_explained : Script → Entry → List ℕ
entry_explained s e = step_explained s e.line e.reply

unfoldable pub entries_explained : Script → List Entry → List ℕ
entries_explained s journal = flat_map (entry_explained s) journal

-- ---- the records that are left in the logs

unfoldable pub left_record : LogId → Event → List ℕ
left_record l event = codes "    " ++ log_name l ++ codes ": " ++ record_words (record_bytes event) ++ 10 ∷ []

unfoldable pub left_in_log : List Effect → LogId → List ℕ
left_in_log past l = flat_map (left_record l) (records_of l past)

-- the records of hosts in order, in each log the oldest first
unfoldable pub left_for_hosts : Configuration → List Effect → List ℕ
left_for_hosts c past = flat_map (λ h. left_in_log past (LogId.Host h)) (hosts_of c)

unfoldable pub logs_title : List ℕ
logs_title = codes "In the logs:\n"

-- those of hosts, then those of the manager
unfoldable pub logs_explained : Configuration → List Effect → List ℕ
logs_explained c past = logs_title ++ left_for_hosts c past ++ left_in_log past LogId.Manager

-- ---- the state

unfoldable pub host_state : Configuration → List Effect → HostId → List ℕ
host_state c past h =
    (codes "    " ++ host_name h) ++ labelled (codes ": extents ") (extent_count c h past) ++ labelled (codes ", granules ") (granules_held c h past)
    ++ labelled (codes ", records in its log ") (length (records_of (LogId.Host h) past)) ++ 10 ∷ []

unfoldable pub hosts_state : Configuration → List Effect → List ℕ
hosts_state c past = flat_map (host_state c past) (hosts_of c)

unfoldable pub manager_state : List Effect → List ℕ
manager_state past =
    labelled (codes "    fm: records in its log ") (length (records_of LogId.Manager past)) ++ labelled (codes ", missed ") (missed_of LogId.Manager past) ++ 10 ∷ []

unfoldable pub granules_state : Configuration → List Effect → List ℕ
granules_state c past = labelled (codes "    granules: free ") (free_count c past) ++ labelled (codes ", dirty ") (dirty_count c past) ++ 10 ∷ []

unfoldable pub state_title : List ℕ
state_title = codes "At the end:\n"

unfoldable pub state_explained : Configuration → List Effect → List ℕ
state_explained c past = state_title ++ hosts_state c past ++ manager_state past ++ granules_state c past

-- ---- the whole

-- what the effects of a journal leave
abbrev pub end_explained : Configuration → List Effect → List ℕ
end_explained c past = logs_explained c past ++ state_explained c past

-- Each entry of the journal in its order, then the logs and the state.
unfoldable pub explanation : Script → List Entry → List ℕ
explanation s journal = entries_explained s journal ++ end_explained s.config (effects journal)
