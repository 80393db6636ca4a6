-- How a payload is read: its length, and what stands at a place.
use Rattle.std.specs.Prelude.{◌≡◌, ◌≢◌, ℕ, ◌+◌, ◌*◌, ◌==◌, nat_lt, Bool, List, length, take, drop, slice_index, if◌then◌else◌, bit_and}
use Rattle.std.specs.declared.result.Result.{Result, TheVariants.Ok, TheVariants.Err}
use Rattle.dcd_base.specs.declared.{capacity.Tag.Tag, faults.PayloadFault.PayloadFault}

-- this value, where the payload has the length that it needs; else the fault that says both lengths
abbrev pub sized : {X : Type 0} → ℕ → List ℕ → X → Result X PayloadFault
sized need payload x = if length payload == need then Ok x else Err (PayloadFault.WrongLength need (length payload))

-- the length of a fixed part and of a count of members; less than the fixed part needs the fixed part
abbrev pub counted : ℕ → ℕ → ℕ → List ℕ → ℕ
counted part each count payload = if nat_lt (length payload) part then part else part + each * count

-- The payload has the length needed, or is refused for it.
abbrev pub HasLength : ℕ → List ℕ → Result (Unit {0}) PayloadFault → Type 0
HasLength need payload (Ok x) = length payload ≡ need
HasLength need payload (Err fault) = (fault ≡ PayloadFault.WrongLength need (length payload)) × (length payload ≢ need)

-- What a call gives is what was to be read, unless memory ran out.
abbrev pub Gives : {X : Type 0} → Result X PayloadFault → Result X PayloadFault → Type 0
Gives (Ok x) read = read ≡ Ok x
Gives (Err PayloadFault.NoMemory) read = Unit {0}
Gives (Err (PayloadFault.UnknownOpcode opcode)) read = read ≡ Err (PayloadFault.UnknownOpcode opcode)
Gives (Err (PayloadFault.WrongLength need have)) read = read ≡ Err (PayloadFault.WrongLength need have)

-- whether bit 0 of the byte at this place stands
abbrev pub has_flag : List ℕ → ℕ → Bool
has_flag payload i = bit_and (slice_index payload i) 1 == 1

-- the sixteen bytes of a tag
abbrev pub tag_at : List ℕ → ℕ → Tag
tag_at payload i = record { 0 = take 16 (drop i payload) }
