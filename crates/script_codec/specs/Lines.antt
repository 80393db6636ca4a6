-- How a line of a script is read.
use Rattle.std.specs.Prelude.{ℕ, zero, suc, ◌/◌, ◌%◌, Bool, ◌&&◌, ◌==◌, nat_lt, List, [], ◌∷◌, length, Option, Some, None, Result, Ok, Err, if◌then◌else◌}
use Rattle.std.specs.Int.{w8, w16, w64}
use Rattle.cci_codec.specs.{Messages.message_fault, Messages.request_in, dcd_base.specs.declared.ids.HostId.HostId, dcd_base.specs.declared.steps.Actor.Actor}
use Rattle.cci_codec.specs.declared.{faults.MessageFault.MessageFault, messages.Request.Request}
use Rattle.journal_core.specs.declared.acts.Act.{Act}
use Rattle.script_codec.specs.{declared.script_line.Line.Line, declared.faults.ScriptFault.ScriptFault, Fields.◌>>=◌, Fields.skip, Fields.part, Fields.number_from}

-- the low four bits of an actor byte name a host, the others its lane
abbrev pub is_host_byte : ℕ → ℕ → ℕ → Bool
is_host_byte hosts lanes byte = nat_lt (byte % 16) hosts && nat_lt (byte / 16) lanes

-- the host and the lane that a byte names
abbrev pub host_of : ℕ → ℕ → ℕ → ℕ → Result (HostId × ℕ) ScriptFault
host_of hosts lanes at byte = if is_host_byte hosts lanes byte then Ok (byte % 16, byte / 16) else Err (ScriptFault.UnknownActor at)

-- the actor of a command and its lane: a host's, or FEh for the manager
abbrev pub commander_of : ℕ → ℕ → ℕ → ℕ → Result (Actor × ℕ) ScriptFault
commander_of hosts lanes at byte =
    if is_host_byte hosts lanes byte then Ok (Actor.Host (byte % 16), byte / 16)
    else if byte == 0xFE then Ok (Actor.Manager, 0)
    else Err (ScriptFault.UnknownActor at)

unfoldable pub host_from : ℕ → ℕ → List ℕ → ℕ → Result ((HostId × ℕ) × ℕ) ScriptFault
host_from hosts lanes bytes at = do
  byte ← number_from w8 bytes at
  host ← host_of hosts lanes at byte.0
  Ok (host, byte.1)

unfoldable pub commander_from : ℕ → ℕ → List ℕ → ℕ → Result ((Actor × ℕ) × ℕ) ScriptFault
commander_from hosts lanes bytes at = do
  byte ← number_from w8 bytes at
  actor ← commander_of hosts lanes at byte.0
  Ok (actor, byte.1)

-- the request that a message at a place is, unless it has a fault
abbrev pub sound_message : ℕ → List ℕ → Option MessageFault → Result Request ScriptFault
sound_message at bytes None = Ok (request_in bytes)
sound_message at bytes (Some fault) = Err (ScriptFault.BadMessage at fault)

abbrev pub message_of : ℕ → List ℕ → Result Request ScriptFault
message_of at bytes = sound_message at bytes (message_fault bytes)

unfoldable pub message_from : ℕ → List ℕ → ℕ → Result (Request × ℕ) ScriptFault
message_from n bytes at = do
  next ← skip n bytes at
  request ← message_of at (part n bytes at)
  Ok (request, next)

unfoldable pub command_from : ℕ → ℕ → List ℕ → ℕ → Result (Line × ℕ) ScriptFault
command_from hosts lanes bytes at = do
  actor ← commander_from hosts lanes bytes at
  size ← number_from w16 bytes actor.1
  request ← message_from size.0 bytes size.1
  Ok (Line.Do actor.0.0 actor.0.1 (Act.Command request.0), request.1)

-- the same act, of this actor
abbrev pub commanded_by : Actor × ℕ → Line → Line
commanded_by commander (Line.Do actor lane act) = Line.Do commander.0 commander.1 act
commanded_by commander Line.Mark = Line.Mark

-- a command of this actor, whose message has so many bytes
abbrev pub commanded_from : Actor × ℕ → ℕ → List ℕ → ℕ → Result (Line × ℕ) ScriptFault
commanded_from commander size bytes at = do
  request ← message_from size bytes at
  Ok (Line.Do commander.0 commander.1 (Act.Command request.0), request.1)

unfoldable pub load_from : ℕ → ℕ → List ℕ → ℕ → Result (Line × ℕ) ScriptFault
load_from hosts lanes bytes at = do
  host ← host_from hosts lanes bytes at
  dpa ← number_from w64 bytes host.1
  Ok (Line.Do (Actor.Host host.0.0) host.0.1 (Act.Load dpa.0), dpa.1)

unfoldable pub store_from : ℕ → ℕ → List ℕ → ℕ → Result (Line × ℕ) ScriptFault
store_from hosts lanes bytes at = do
  host ← host_from hosts lanes bytes at
  dpa ← number_from w64 bytes host.1
  value ← number_from w64 bytes dpa.1
  Ok (Line.Do (Actor.Host host.0.0) host.0.1 (Act.Store dpa.0 value.0), value.1)

unfoldable pub scrub_from : List ℕ → ℕ → Result (Line × ℕ) ScriptFault
scrub_from bytes at = do
  most ← number_from w16 bytes at
  Ok (Line.Do Actor.Sanitizer 0 (Act.Scrub most.0), most.1)

-- the rest of a line of this kind that is no command
abbrev pub other_from : ℕ → ℕ → ℕ → List ℕ → ℕ → Result (Line × ℕ) ScriptFault
other_from kind hosts lanes bytes at =
    if kind == 2 then load_from hosts lanes bytes at
    else if kind == 3 then store_from hosts lanes bytes at
    else if kind == 4 then scrub_from bytes at
    else Ok (Line.Mark, at)

-- the rest of a line of this kind
abbrev pub line_from : ℕ → ℕ → ℕ → List ℕ → ℕ → Result (Line × ℕ) ScriptFault
line_from kind hosts lanes bytes at =
    if kind == 1 then command_from hosts lanes bytes at
    else other_from kind hosts lanes bytes at

-- the kind of the line that begins at a place, or 0, the end word
unfoldable pub kind_from : List ℕ → ℕ → Result (ℕ × ℕ) ScriptFault
kind_from bytes at = do
  kind ← number_from w8 bytes at
  if nat_lt 5 kind.0 then Err (ScriptFault.UnknownKind at) else Ok kind

-- behind the end word nothing stands
abbrev pub end_from : List ℕ → ℕ → Result (List Line) ScriptFault
end_from bytes at = if nat_lt at (length bytes) then Err (ScriptFault.AfterEnd at) else Ok []

-- The lines from a place on, of which so many may still come, up to the end word.
unfoldable pub lines_from : ℕ → ℕ → ℕ → List ℕ → ℕ → Result (List Line) ScriptFault
lines_from zero hosts lanes bytes at = do
  kind ← kind_from bytes at
  if kind.0 == 0 then end_from bytes kind.1 else Err (ScriptFault.TooManyLines at)
lines_from (suc left) hosts lanes bytes at = do
  kind ← kind_from bytes at
  if kind.0 == 0 then end_from bytes kind.1 else (do
    line ← line_from kind.0 hosts lanes bytes kind.1
    lines ← lines_from left hosts lanes bytes line.1
    Ok (line.0 ∷ lines))
