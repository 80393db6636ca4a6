-- The names of statuses, of return codes and of the faults of heads by their numbers; a number without one has no bytes.
use Rattle.std.specs.Prelude.{◌≡◌, ℕ, suc, ◌≤◌, ◌==◌, if◌then◌else◌, List, [], ◌∷◌, ◌++◌, codes, drop, length, Result, Ok, Err}
use Rattle.dcd_codes.specs.{Names.name_of, declared.codes.Code.Code}
use Rattle.dcd_c.specs.declared.faults.Fault.{Fault}

unfoldable pub status_word : ℕ → List ℕ
status_word n =
    if n == 0 then codes "DCD_OK"
    else if n == 1 then codes "DCD_NO_MEMORY"
    else if n == 2 then codes "DCD_CLOSED"
    else if n == 3 then codes "DCD_OPENED"
    else if n == 4 then codes "DCD_BAD_HEAD"
    else if n == 5 then codes "DCD_NO_ACTOR"
    else if n == 6 then codes "DCD_SHORT_MESSAGE"
    else if n == 7 then codes "DCD_NO_REQUEST"
    else if n == 8 then codes "DCD_WRONG_LENGTH"
    else if n == 9 then codes "DCD_NO_ROOM"
    else if n == 10 then codes "DCD_MISALIGNED"
    else if n == 11 then codes "DCD_OUTSIDE_REGIONS"
    else if n == 12 then codes "DCD_NOT_GRANTED"
    else if n == 13 then codes "DCD_BAD_SIZE"
    else if n == 14 then codes "DCD_BAD_COUNT"
    else if n == 15 then codes "DCD_NO_NAME"
    else []

unfoldable pub code_word : ℕ → List ℕ
code_word n =
    if n == 0 then name_of Code.Success
    else if n == 2 then name_of Code.InvalidInput
    else if n == 3 then name_of Code.Unsupported
    else if n == 5 then name_of Code.RetryRequired
    else if n == 14 then name_of Code.InvalidHandle
    else if n == 15 then name_of Code.InvalidPhysicalAddress
    else if n == 22 then name_of Code.InvalidPayloadLength
    else if n == 29 then name_of Code.ResourcesExhausted
    else if n == 30 then name_of Code.InvalidExtentList
    else []

unfoldable pub fault_word : ℕ → List ℕ
fault_word n =
    if n == 1 then codes "BadMagic"
    else if n == 2 then codes "BadVersion"
    else if n == 3 then codes "BadConfig"
    else if n == 4 then codes "Truncated"
    else if n == 5 then codes "UnknownKind"
    else if n == 6 then codes "UnknownActor"
    else if n == 7 then codes "BadMessage"
    else if n == 8 then codes "TooLong"
    else if n == 9 then codes "AfterEnd"
    else if n == 10 then codes "TooManyLines"
    else if n == 11 then codes "NoMemory"
    else if n == 12 then codes "BadLanes"
    else []

-- What putting words into a caller's room answers: their bytes and a NUL stand there, and the length is told without the NUL.
abbrev pub PutsWords : List ℕ → List ℕ → List ℕ → Result ℕ Fault → Type 0
PutsWords words was is (Ok n) = (n ≡ length words) × (is ≡ words ++ 0 ∷ drop (suc n) was)
PutsWords words was is (Err (Fault.NoRoom n)) = (n ≡ length words) × (length was ≤ n) × (is ≡ was)
PutsWords words was is (Err fault) = ⊥

-- The same of a name, which has bytes.
abbrev pub PutsName : List ℕ → List ℕ → List ℕ → Result ℕ Fault → Type 0
PutsName name was is (Err Fault.NoName) = (name ≡ []) × (is ≡ was)
PutsName name was is outcome = (1 ≤ length name) × PutsWords name was is outcome
