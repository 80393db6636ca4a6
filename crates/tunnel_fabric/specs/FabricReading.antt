-- What reading a fabric answers: the fabric, or the first fault.
use Rattle.std.specs.Prelude.{◌≡◌, ◌≢◌, ℕ, zero, suc, Bool, ◌||◌, ◌==◌, not, nat_lt, List, [], ◌∷◌, length, Result, Ok, Err, if◌then◌else◌}
use Rattle.std.specs.Int.{w8, w16, w32}
use lib.Pointwise.{pointwise}
use Rattle.region_config.specs.Configurations.{Configuration}
use Rattle.report.specs.script_codec.specs.{declared.faults.ScriptFault.ScriptFault, declared.scripts.Script.Script, Fields.◌>>=◌, Fields.skip, Fields.part, Fields.number_from, Reading.script_in}
use Rattle.tunnel_fabric.specs.{FabricFaults.as_in_script, FabricLayout.fabric_magic, FabricLines.fabric_lines_from, declared.fabric_scripts.FabricScript.FabricScript}
use Rattle.tunnel_fabric.specs.declared.faults.FabricFault.{FabricFault}

-- how many bytes and how many lines a fabric may have
abbrev pub most_fabric_bytes : ℕ
most_fabric_bytes = 16777216

abbrev pub most_fabric_lines : ℕ
most_fabric_lines = 65536

-- what is read next, unless there was a fault
infixl 10 ◌▸◌
abbrev pub ◌▸◌ : {A B : Type 0} → Result A FabricFault → (A → Result B FabricFault) → Result B FabricFault
Ok x ▸ next = next x
Err fault ▸ next = Err fault

-- The call answers what the definition reads, seen by view. Memory may be wanting at any time.
abbrev pub GivesFabric : {A B : Type 0} → (A → B) → Result A FabricFault → Result B FabricFault → Type 0
GivesFabric view (Ok x) read = read ≡ Ok (view x)
GivesFabric view (Err fault) read = fault ≢ FabricFault.NoMemory → read ≡ Err fault

-- ---- what stands before the devices

-- the place behind the four bytes that every fabric begins with
unfoldable pub fabric_magic_from : List ℕ → ℕ → Result ℕ ScriptFault
fabric_magic_from bytes at = do
  next ← skip 4 bytes at
  if pointwise ◌==◌ (part 4 bytes at) fabric_magic then Ok next else Err ScriptFault.BadMagic

-- the place behind the version, which is 1
unfoldable pub fabric_version_from : List ℕ → ℕ → Result ℕ ScriptFault
fabric_version_from bytes at = do
  version ← number_from w16 bytes at
  if not (version.0 == 1) then Err (ScriptFault.BadVersion version.0) else Ok version.1

-- both, and the number of devices behind them
unfoldable pub front_from : List ℕ → ℕ → Result (ℕ × ℕ) ScriptFault
front_from bytes at = do
  begun ← fabric_magic_from bytes at
  versioned ← fabric_version_from bytes begun
  count ← number_from w8 bytes versioned
  Ok (count.0, count.1)

-- there are 1 to 8 devices
abbrev pub bad_device_count : ℕ → Bool
bad_device_count count = nat_lt count 1 || nat_lt 8 count

abbrev pub device_count_in : ℕ → Result ℕ FabricFault
device_count_in count = if bad_device_count count then Err (FabricFault.BadCount count) else Ok count

-- ---- devices

-- the configuration of a script that begins at the place: it is of version 1 and has no line

abbrev pub bare_config : ℕ → Script → Result Configuration FabricFault
bare_config at script = if not (script.version == 1) || not (length script.lines == 0) then Err (FabricFault.HasLines at) else Ok script.config

abbrev pub bare_of : ℕ → Result Script ScriptFault → Result Configuration FabricFault
bare_of at (Ok script) = bare_config at script
bare_of at (Err fault) = Err (FabricFault.BadScript at fault)

abbrev pub config_told : ℕ → List ℕ → Result Configuration FabricFault
config_told at bytes = bare_of at (script_in bytes)

-- a device: how many bytes its script has, and the script
unfoldable pub device_script_from : List ℕ → ℕ → Result (Configuration × ℕ) FabricFault
device_script_from bytes at =
    as_in_script (number_from w32 bytes at)
    ▸ (λ size. as_in_script (skip size.0 bytes size.1)
    ▸ (λ next. config_told size.1 (part size.0 bytes size.1)
    ▸ (λ config. Ok (config, next))))

-- so many devices
unfoldable pub devices_from : ℕ → List ℕ → ℕ → Result (List Configuration × ℕ) FabricFault
devices_from zero bytes at = Ok ([], at)
devices_from (suc n) bytes at =
    device_script_from bytes at
    ▸ (λ first. devices_from n bytes first.1
    ▸ (λ rest. Ok (first.0 ∷ rest.0, rest.1)))

-- ---- the whole

unfoldable pub fabric_fields_in : List ℕ → Result FabricScript FabricFault
fabric_fields_in bytes =
    as_in_script (front_from bytes 0)
    ▸ (λ front. device_count_in front.0
    ▸ (λ count. as_in_script (skip 1 bytes front.1)
    ▸ (λ reserved. devices_from count bytes reserved
    ▸ (λ devices. as_in_script (fabric_lines_from most_fabric_lines devices.0 bytes devices.1)
    ▸ (λ its_lines. Ok (record { configs = devices.0; lines = its_lines }))))))

-- The fabric that bytes are, or else their first fault: they are too many, or the first in the order of the fields.
unfoldable pub fabric_in : List ℕ → Result FabricScript FabricFault
fabric_in bytes = if nat_lt most_fabric_bytes (length bytes) then Err FabricFault.TooLong else fabric_fields_in bytes

-- What reading the bytes answers: the fabric that they are, or their first fault. Memory may be wanting at any time.
abbrev pub IsFabricRead : List ℕ → Result FabricScript FabricFault → Type 0
IsFabricRead bytes (Ok f) = fabric_in bytes ≡ Ok f
IsFabricRead bytes (Err fault) = fault ≢ FabricFault.NoMemory → fabric_in bytes ≡ Err fault

-- What reading answers where the bytes read as this fabric: the fabric, if there is memory.
abbrev pub IsReadAsFabric : FabricScript → Result FabricScript FabricFault → Type 0
IsReadAsFabric f (Ok found) = found ≡ f
IsReadAsFabric f (Err fault) = fault ≡ FabricFault.NoMemory
