-- How a line of a script is read.
use Rattle.std.specs.Prelude.{ℕ, ◌+◌, ◌-◌, ◌^◌, ◌==◌, nat_lt, List, [], ◌∷◌, ◌++◌, length, Option, Some, None, Result, Ok, Err, if◌then◌else◌, codes}
use lib.Pointwise.{pointwise}
use Rattle.cci_codec.specs.{Messages.message_fault, Messages.request_in, declared.faults.MessageFault.MessageFault, declared.messages.Request.Request}
use Rattle.dcd_base.specs.{declared.steps.Actor.Actor, Layouts.spelling}
use Rattle.fm_payloads.specs.{ManagerPayloads.manager_fields, ManagerPayloads.manager_opcode, declared.requests.FmRequest.FmRequest}
use Rattle.host_payloads.specs.{HostPayloads.host_fields, HostPayloads.host_opcode, declared.requests.HostRequest.HostRequest}
use Rattle.journal_core.specs.declared.acts.Act.{Act}
use Rattle.script_codec.specs.declared.script_line.Line.{Line}
use Rattle.text_lines.specs.{Actors.actor_ahead, Actors.actor_of_word, Chains.◌>>!◌ as ◌>>=◌, Commands.host_command_said, Commands.manager_command_said}
use Rattle.text_lines.specs.{Fields.end_ahead, Fields.may_ahead, Fields.number_ahead, Fields.one_word, Fields.refused, HostRequests.host_request_ahead, ManagerRequests.manager_request_ahead}
use Rattle.text_lines.specs.{Pairs.pairs_said, Unread.UnreadWords, Unread.is_done, Unread.first_unread, declared.actors.Frame.Frame, declared.actors.Speaker.Speaker}
use Rattle.text_lines.specs.declared.{commands.HostCommand.HostCommand, commands.ManagerCommand.ManagerCommand, faults.Cause.Cause, faults.TextFault.TextFault, faults.Wanted.Wanted}
use Rattle.text_lines.specs.declared.{keywords.Keyword.Keyword, openings.HostWord.HostWord, openings.Opening.Opening}

-- ---- the first word of a line

-- what the first word of a line begins
abbrev pub opening_of_actor : Result Speaker Cause → Result Opening Cause
opening_of_actor (Ok speaker) = Ok (Opening.By speaker)
opening_of_actor (Err cause) = Err cause

unfoldable pub opening_of_word : Frame → List ℕ → Result Opening Cause
opening_of_word frame word =
    if pointwise ◌==◌ word (codes "mark") then Ok Opening.Mark
    else if pointwise ◌==◌ word (codes "scrub") then Ok Opening.Scrub
    else if pointwise ◌==◌ word (codes "command") then Ok Opening.Command
    else opening_of_actor (actor_of_word frame Wanted.Line word)

unfoldable pub opening_ahead : Frame → UnreadWords → Result (Opening × UnreadWords) TextFault
opening_ahead frame u = one_word Wanted.Line u (opening_of_word frame (first_unread u))

-- ---- messages byte by byte

abbrev pub bytes_or : Option (List ℕ) → Result (List ℕ) Cause
bytes_or (Some bytes) = Ok bytes
bytes_or None = Err (Cause.OutOfForm Wanted.Bytes)

-- bytes behind those before them, at most 65,535
abbrev pub bytes_with_room : List ℕ → Result (List ℕ) Cause → Result (List ℕ) Cause
bytes_with_room before (Ok bytes) = if nat_lt 65535 (length (before ++ bytes)) then Err Cause.MessageTooLong else Ok (before ++ bytes)
bytes_with_room before (Err cause) = Err cause

-- the bytes of the words that are left, behind those before them
unfoldable pub bytes_at : List ℕ → ℕ → ℕ → List (List ℕ) → Result (List ℕ × UnreadWords) TextFault
bytes_at before line word [] = Ok (before, record { line = line; word = word; words = [] })
bytes_at before line word (w ∷ ws) = do
  more ← one_word Wanted.Bytes (record { line = line; word = word; words = w ∷ ws }) (bytes_with_room before (bytes_or (pairs_said w)))
  bytes_at more.0 line (word + 1) ws

-- pairs of digits up to the end of the line, at least one word
unfoldable pub bytes_ahead : UnreadWords → Result (List ℕ × UnreadWords) TextFault
bytes_ahead u = if is_done u then Err (refused u (Cause.Wanted Wanted.Bytes)) else bytes_at [] u.line u.word u.words

-- the request that a message is which begins with a word, unless it has a fault
abbrev pub message_or_fault : ℕ → ℕ → List ℕ → Option MessageFault → Result Request TextFault
message_or_fault line word bytes None = Ok (request_in bytes)
message_or_fault line word bytes (Some fault) = Err (TextFault.Refused line word (Cause.BadMessage fault))

abbrev pub message_said : ℕ → ℕ → List ℕ → Result Request TextFault
message_said line word bytes = message_or_fault line word bytes (message_fault bytes)

-- the line of an act of an actor
abbrev pub line_by : Speaker → Act → Line
line_by (Speaker.Host host lane) act = Line.Do (Actor.Host host) lane act
line_by Speaker.Manager act = Line.Do Actor.Manager 0 act

unfoldable pub command_ahead : Frame → UnreadWords → Result (Line × UnreadWords) TextFault
command_ahead frame u = do
  actor ← actor_ahead frame u
  bytes ← bytes_ahead actor.1
  request ← message_said actor.1.line actor.1.word bytes.0
  Ok (line_by actor.0 (Act.Command request), bytes.1)

-- ---- messages by the names of their commands

-- the message that says a request of a host, and of the manager
abbrev pub host_message : ℕ → HostRequest → Request
host_message tag q = record { tag = tag; opcode = host_opcode q; payload = spelling (host_fields q) }

abbrev pub manager_message : ℕ → FmRequest → Request
manager_message tag q = record { tag = tag; opcode = manager_opcode q; payload = spelling (manager_fields q) }

unfoldable pub host_asked_ahead : HostCommand → UnreadWords → Result (Act × UnreadWords) TextFault
host_asked_ahead command u = do
  request ← host_request_ahead command u
  tag ← may_ahead Keyword.MessageTag 255 request.1
  Ok (Act.Command (host_message tag.0 request.0), tag.1)

unfoldable pub manager_asked_ahead : ManagerCommand → UnreadWords → Result (Act × UnreadWords) TextFault
manager_asked_ahead command u = do
  request ← manager_request_ahead command u
  tag ← may_ahead Keyword.MessageTag 255 request.1
  Ok (Act.Command (manager_message tag.0 request.0), tag.1)

-- ---- what a host and the manager do

abbrev pub host_word_of : Option HostCommand → Result HostWord Cause
host_word_of (Some command) = Ok (HostWord.Ask command)
host_word_of None = Err (Cause.Wanted Wanted.HostCommand)

unfoldable pub host_word : List ℕ → Result HostWord Cause
host_word word =
    if pointwise ◌==◌ word (codes "load") then Ok HostWord.Load
    else if pointwise ◌==◌ word (codes "store") then Ok HostWord.Store
    else host_word_of (host_command_said word)

unfoldable pub load_ahead : UnreadWords → Result (Act × UnreadWords) TextFault
load_ahead u = do
  dpa ← number_ahead (2 ^ 64 - 1) u
  Ok (Act.Load dpa.0, dpa.1)

unfoldable pub store_ahead : UnreadWords → Result (Act × UnreadWords) TextFault
store_ahead u = do
  dpa ← number_ahead (2 ^ 64 - 1) u
  value ← number_ahead (2 ^ 64 - 1) dpa.1
  Ok (Act.Store dpa.0 value.0, value.1)

abbrev pub host_rest_ahead : HostWord → UnreadWords → Result (Act × UnreadWords) TextFault
host_rest_ahead HostWord.Load u = load_ahead u
host_rest_ahead HostWord.Store u = store_ahead u
host_rest_ahead (HostWord.Ask command) u = host_asked_ahead command u

unfoldable pub host_act_ahead : UnreadWords → Result (Act × UnreadWords) TextFault
host_act_ahead u = do
  name ← one_word Wanted.HostCommand u (host_word (first_unread u))
  host_rest_ahead name.0 name.1

abbrev pub manager_word : Option ManagerCommand → Result ManagerCommand Cause
manager_word (Some command) = Ok command
manager_word None = Err (Cause.Wanted Wanted.ManagerCommand)

unfoldable pub manager_act_ahead : UnreadWords → Result (Act × UnreadWords) TextFault
manager_act_ahead u = do
  name ← one_word Wanted.ManagerCommand u (manager_word (manager_command_said (first_unread u)))
  manager_asked_ahead name.0 name.1

-- ---- whole lines

abbrev pub speaker_act_ahead : Speaker → UnreadWords → Result (Act × UnreadWords) TextFault
speaker_act_ahead (Speaker.Host host lane) u = host_act_ahead u
speaker_act_ahead Speaker.Manager u = manager_act_ahead u

-- what an actor does
unfoldable pub actor_line_ahead : Speaker → UnreadWords → Result (Line × UnreadWords) TextFault
actor_line_ahead speaker u = do
  act ← speaker_act_ahead speaker u
  Ok (line_by speaker act.0, act.1)

unfoldable pub scrub_ahead : UnreadWords → Result (Line × UnreadWords) TextFault
scrub_ahead u = do
  most ← number_ahead 65535 u
  Ok (Line.Do Actor.Sanitizer 0 (Act.Scrub most.0), most.1)

abbrev pub opened_ahead : Frame → Opening → UnreadWords → Result (Line × UnreadWords) TextFault
opened_ahead frame Opening.Mark u = Ok (Line.Mark, u)
opened_ahead frame Opening.Scrub u = scrub_ahead u
opened_ahead frame Opening.Command u = command_ahead frame u
opened_ahead frame (Opening.By speaker) u = actor_line_ahead speaker u

-- the rest of a line behind what opens it
unfoldable pub rest_ahead : Frame → Opening → UnreadWords → Result Line TextFault
rest_ahead frame opening u = do
  line ← opened_ahead frame opening u
  end ← end_ahead line.1
  Ok line.0
