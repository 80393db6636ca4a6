-- The fault of a script as a number and a place, as they are printed where a script is refused.
use Rattle.std.specs.Prelude.{ℕ}
use Rattle.script_codec.specs.declared.faults.ScriptFault.{ScriptFault}

abbrev pub fault_number : ScriptFault → ℕ
fault_number ScriptFault.BadMagic = 1
fault_number (ScriptFault.BadVersion version) = 2
fault_number (ScriptFault.BadConfig fault) = 3
fault_number (ScriptFault.Truncated count) = 4
fault_number (ScriptFault.UnknownKind at) = 5
fault_number (ScriptFault.UnknownActor at) = 6
fault_number (ScriptFault.BadMessage at fault) = 7
fault_number ScriptFault.TooLong = 8
fault_number (ScriptFault.AfterEnd at) = 9
fault_number (ScriptFault.TooManyLines at) = 10
fault_number ScriptFault.NoMemory = 11
fault_number (ScriptFault.BadLanes lanes) = 12

-- how many bytes stand before the fault
abbrev pub fault_place : ScriptFault → ℕ
fault_place ScriptFault.BadMagic = 0
fault_place (ScriptFault.BadVersion version) = 4
fault_place (ScriptFault.BadConfig fault) = 8
fault_place (ScriptFault.Truncated count) = count
fault_place (ScriptFault.UnknownKind at) = at
fault_place (ScriptFault.UnknownActor at) = at
fault_place (ScriptFault.BadMessage at fault) = at
fault_place ScriptFault.TooLong = 16777216
fault_place (ScriptFault.AfterEnd at) = at
fault_place (ScriptFault.TooManyLines at) = at
fault_place (ScriptFault.BadLanes lanes) = 10
fault_place ScriptFault.NoMemory = 0
