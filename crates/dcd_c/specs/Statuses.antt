-- The numbers by which a call says what went wrong.
use Rattle.std.specs.Prelude.{◌≡◌, ℕ, Bool, true, false, Result, Ok, Err}
use Rattle.cci_codec.specs.declared.faults.MessageFault.{MessageFault}
use Rattle.dcd_base.specs.declared.failures.AccessFault.{AccessFault}
use Rattle.dcd_c.specs.declared.faults.Fault.{Fault}

abbrev pub message_status : MessageFault → ℕ
message_status (MessageFault.Short n) = 6
message_status (MessageFault.NotRequest category) = 7
message_status (MessageFault.LengthDiffers field rest) = 8
message_status MessageFault.NoMemory = 1

abbrev pub access_status : AccessFault → ℕ
access_status AccessFault.Misaligned = 10
access_status AccessFault.OutsideRegions = 11
access_status AccessFault.NotGranted = 12

abbrev pub fault_status : Fault → ℕ
fault_status Fault.NoMemory = 1
fault_status Fault.Closed = 2
fault_status Fault.Opened = 3
fault_status (Fault.Head fault) = 4
fault_status Fault.NoActor = 5
fault_status (Fault.Message fault) = message_status fault
fault_status (Fault.NoRoom n) = 9
fault_status (Fault.Access fault) = access_status fault
fault_status Fault.BadSize = 13
fault_status Fault.BadCount = 14
fault_status Fault.NoName = 15

-- 0 where it was done
abbrev pub status_of_call : {X : Type 0} → Result X Fault → ℕ
status_of_call (Ok x) = 0
status_of_call (Err fault) = fault_status fault

-- the number that goes out: what is answered, or the room that is needed; else it is as it was
abbrev pub number_told : ℕ → Result ℕ Fault → ℕ
number_told was (Ok n) = n
number_told was (Err (Fault.NoRoom n)) = n
number_told was (Err fault) = was

-- The status tells an outcome of which P holds, and what stood at the pointer before and after is told by it.
pub record TellsNumber (status was is : ℕ) (P : Result ℕ Fault → Type 0) : Type 0 where
  pub outcome : Result ℕ Fault
  pub is_status : status ≡ status_of_call outcome
  pub is_number : is ≡ number_told was outcome
  pub holds : P outcome

-- What holds where the size in the caller's struct is too small, and else.
abbrev pub BySize : Bool → Type 0 → Type 0 → Type 0
BySize true P Q = P
BySize false P Q = Q

-- The status tells an outcome of which P holds.
pub record TellsDone (status : ℕ) (P : Result (Unit {0}) Fault → Type 0) : Type 0 where
  pub outcome : Result (Unit {0}) Fault
  pub is_status : status ≡ status_of_call outcome
  pub holds : P outcome
