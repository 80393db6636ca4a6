-- What reading a script answers: the script, or the first fault.
use Rattle.std.specs.Prelude.{◌≡◌, ◌≢◌, ℕ, nat_lt, List, length, Option, Some, None, Result, Ok, Err, if◌then◌else◌}
use Rattle.script_codec.specs.{declared.heads.Head.Head, declared.scripts.Script.Script, declared.faults.ScriptFault.ScriptFault, Fields.◌>>=◌, Heads.head_from, Lines.lines_from}

-- how many bytes and how many lines a script may have
abbrev pub most_bytes : ℕ
most_bytes = 16777216

abbrev pub most_lines : ℕ
most_lines = 65536

unfoldable pub fields_in : List ℕ → Result Script ScriptFault
fields_in bytes = do
  head ← head_from bytes 0
  lines ← lines_from most_lines head.0.config.hosts head.0.lanes bytes head.1
  Ok (record { version = head.0.version; lanes = head.0.lanes; config = head.0.config; lines = lines })

-- The script that bytes are, or else their first fault: they are too many, or the first in the order of the fields.
unfoldable pub script_in : List ℕ → Result Script ScriptFault
script_in bytes = if nat_lt most_bytes (length bytes) then Err ScriptFault.TooLong else fields_in bytes

-- The head that bytes begin with and the place behind it, or else their first fault up to there: they are too many, or the
-- first in the order of the fields.
unfoldable pub head_in : List ℕ → Result (Head × ℕ) ScriptFault
head_in bytes = if nat_lt most_bytes (length bytes) then Err ScriptFault.TooLong else head_from bytes 0

-- the first fault of bytes, if they are no script
abbrev pub fault_of : Result Script ScriptFault → Option ScriptFault
fault_of (Ok script) = None
fault_of (Err fault) = Some fault

abbrev pub first_fault : List ℕ → Option ScriptFault
first_fault bytes = fault_of (script_in bytes)

-- What reading the bytes answers: the script that they are, or their first fault. Memory may be wanting at any time.
abbrev pub IsScriptRead : List ℕ → Result Script ScriptFault → Type 0
IsScriptRead bytes (Ok script) = script_in bytes ≡ Ok script
IsScriptRead bytes (Err fault) = fault ≢ ScriptFault.NoMemory → first_fault bytes ≡ Some fault

-- What reading answers where the bytes read as this script: the script, if there is memory.
abbrev pub IsReadAs : Script → Result Script ScriptFault → Type 0
IsReadAs script (Ok found) = found ≡ script
IsReadAs script (Err fault) = fault ≡ ScriptFault.NoMemory
