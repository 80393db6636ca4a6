-- How a line of a fabric is read. A fault is told as one of a script: a byte that names no device has the fault of one that
-- names no actor.
use Rattle.std.specs.Prelude.{◌≡◌, ◌≢◌, ℕ, zero, suc, ◌-◌, ◌<◌, ◌≤◌, ◌&&◌, ◌||◌, ◌==◌, nat_lt, List, [], ◌∷◌, length, slice_get, Option, Some, None, Result, Ok, Err, if◌then◌else◌}
use Rattle.std.specs.Int.{w8, w16}
use Rattle.region_config.specs.Configurations.{Configuration}
use Rattle.report.specs.script_codec.specs.{declared.faults.ScriptFault.ScriptFault, declared.script_line.Line.Line, Fields.◌>>=◌, Fields.number_from, Lines.line_from, Lines.message_from}
use Rattle.tunnel_fabric.specs.declared.fabric_lines.FabricLine.{FabricLine}

-- how many hosts the device has that the byte at the place names
abbrev pub hosts_in : ℕ → Option Configuration → Result ℕ ScriptFault
hosts_in at None = Err (ScriptFault.UnknownActor at)
hosts_in at (Some config) = Ok config.hosts

abbrev pub hosts_of_device : List Configuration → ℕ → ℕ → Result ℕ ScriptFault
hosts_of_device configs at device = hosts_in at (slice_get configs device)

-- the number of a device and how many hosts it has
unfoldable pub device_from : List Configuration → List ℕ → ℕ → Result ((ℕ × ℕ) × ℕ) ScriptFault
device_from configs bytes at = do
  device ← number_from w8 bytes at
  hosts ← hosts_of_device configs at device.0
  Ok ((device.0, hosts), device.1)

-- the kind of a line of one device, 1 to 4
unfoldable pub local_kind_from : List ℕ → ℕ → Result (ℕ × ℕ) ScriptFault
local_kind_from bytes at = do
  kind ← number_from w8 bytes at
  if nat_lt kind.0 1 || nat_lt 4 kind.0 then Err (ScriptFault.UnknownKind at) else Ok kind

-- a command at this place is not the manager's, whose commands come through the tunnel
unfoldable pub no_manager_from : ℕ → List ℕ → ℕ → Result ℕ ScriptFault
no_manager_from kind bytes at = do
  actor ← number_from w8 bytes at
  if (kind == 1) && (actor.0 == 0xFE) then Err (ScriptFault.UnknownActor at) else Ok at

-- the act of a line, on a device; a mark is none
abbrev pub as_local : ℕ → ℕ → Line → Result FabricLine ScriptFault
as_local at device (Line.Do actor lane act) = Ok (FabricLine.Local device actor act)
as_local at device Line.Mark = Err (ScriptFault.UnknownKind at)

-- a device, and a line as in a script of its own with one lane
unfoldable pub local_from : List Configuration → List ℕ → ℕ → Result (FabricLine × ℕ) ScriptFault
local_from configs bytes at = do
  device ← device_from configs bytes at
  kind ← local_kind_from bytes device.1
  actor ← no_manager_from kind.0 bytes kind.1
  line ← line_from kind.0 device.0.1 1 bytes actor
  local ← as_local device.1 device.0.0 line.0
  Ok (local, line.1)

-- a message to the tunnel, and its length before it
unfoldable pub tunnel_from : List ℕ → ℕ → Result (FabricLine × ℕ) ScriptFault
tunnel_from bytes at = do
  size ← number_from w16 bytes at
  request ← message_from size.0 bytes size.1
  Ok (FabricLine.Tunnel request.0, request.1)

-- the rest of a line of this kind
abbrev pub fabric_line_from : ℕ → List Configuration → List ℕ → ℕ → Result (FabricLine × ℕ) ScriptFault
fabric_line_from kind configs bytes at = if kind == 1 then local_from configs bytes at else tunnel_from bytes at

-- the kind of the line that begins at a place, 1 or 2, or 0, the end word
unfoldable pub fabric_kind_from : List ℕ → ℕ → Result (ℕ × ℕ) ScriptFault
fabric_kind_from bytes at = do
  kind ← number_from w8 bytes at
  if nat_lt 2 kind.0 then Err (ScriptFault.UnknownKind at) else Ok kind

-- behind the end word nothing stands
abbrev pub fabric_end_from : List ℕ → ℕ → Result (List FabricLine) ScriptFault
fabric_end_from bytes at = if nat_lt at (length bytes) then Err (ScriptFault.AfterEnd at) else Ok []

-- The lines from a place on, of which so many may still come, up to the end word.
unfoldable pub fabric_lines_from : ℕ → List Configuration → List ℕ → ℕ → Result (List FabricLine) ScriptFault
fabric_lines_from zero configs bytes at = do
  kind ← fabric_kind_from bytes at
  if kind.0 == 0 then fabric_end_from bytes kind.1 else Err (ScriptFault.TooManyLines at)
fabric_lines_from (suc left) configs bytes at = do
  kind ← fabric_kind_from bytes at
  if kind.0 == 0 then fabric_end_from bytes kind.1 else (do
    line ← fabric_line_from kind.0 configs bytes kind.1
    lines ← fabric_lines_from left configs bytes line.1
    Ok (line.0 ∷ lines))

-- ---- line by line

-- the line, then those that come behind it
abbrev pub fabric_line_then : FabricLine → Result (List FabricLine) ScriptFault → Result (List FabricLine) ScriptFault
fabric_line_then line rest = rest >>= (λ lines. Ok (line ∷ lines))

-- This line begins at the place, and behind it is a place from which so many but one may still come.
pub record TakesFabricLineAt (left : ℕ) (configs : List Configuration) (bytes : List ℕ) (at : ℕ) (found : FabricLine × ℕ) : Type 0 where
  pub is : fabric_lines_from left configs bytes at ≡ fabric_line_then found.0 (fabric_lines_from (left - 1) configs bytes found.1)
  pub some : 0 < left
  pub within : found.1 ≤ length bytes

-- What asking for the next line answers: that line, or that none comes, or the fault that comes first. Memory may be wanting at
-- any time.
abbrev pub IsFabricNextAt : ℕ → List Configuration → List ℕ → ℕ → Result (Option (FabricLine × ℕ)) ScriptFault → Type 0
IsFabricNextAt left configs bytes at (Ok (Some found)) = TakesFabricLineAt left configs bytes at found
IsFabricNextAt left configs bytes at (Ok None) = fabric_lines_from left configs bytes at ≡ Ok []
IsFabricNextAt left configs bytes at (Err fault) = fault ≢ ScriptFault.NoMemory → fabric_lines_from left configs bytes at ≡ Err fault
