-- The fault of a head as a number and a place, the same that the line of a refused script tells.
use Rattle.std.specs.Prelude.{◌≡◌, ℕ, Result, Err}
use Rattle.region_config.specs.declared.faults.ConfigFault.{ConfigFault}
use Rattle.script_codec.specs.{declared.faults.ScriptFault.ScriptFault, FaultNumbers.fault_number, FaultNumbers.fault_place}
use Rattle.dcd_c.specs.{Statuses.status_of_call, declared.faults.Fault.Fault, declared.head_faults.HeadFault.HeadFault}

-- the number of the fault of a configuration, and the host and the region that it is about, or 0
abbrev pub config_cause : ConfigFault → ℕ × ℕ × ℕ
config_cause ConfigFault.Count = (1, 0, 0)
config_cause (ConfigFault.Base host region) = (2, host, region)
config_cause (ConfigFault.BlockSize region) = (3, 0, region)
config_cause (ConfigFault.Length region) = (4, 0, region)
config_cause (ConfigFault.Overlap host region) = (5, host, region)
config_cause (ConfigFault.TooManyGranules n) = (6, 0, 0)
config_cause ConfigFault.NoMemory = (0, 0, 0)

abbrev pub cause_of : ScriptFault → ℕ × ℕ × ℕ
cause_of (ScriptFault.BadConfig fault) = config_cause fault
cause_of fault = (0, 0, 0)

-- what stands at the pointer: the fault of the head, or what was there
abbrev pub fault_told : HeadFault → Result (Unit {0}) Fault → HeadFault
fault_told was (Err (Fault.Head fault)) = let cause = cause_of fault in record {
  place = fault_place fault;
  number = fault_number fault;
  cause = cause.0;
  host = cause.1;
  region = cause.2;
  reserved = 0;
  reserved_too = 0;
}
fault_told was outcome = was

-- The status tells an outcome of which P holds, and what is at the pointer is told by it.
pub record TellsOpened (status : ℕ) (was is : HeadFault) (P : Result (Unit {0}) Fault → Type 0) : Type 0 where
  pub outcome : Result (Unit {0}) Fault
  pub is_status : status ≡ status_of_call outcome
  pub is_fault : is ≡ fault_told was outcome
  pub holds : P outcome
