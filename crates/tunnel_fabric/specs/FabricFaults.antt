-- Faults of what is read as in a script, as faults of a fabric.
use Rattle.std.specs.Prelude.{◌≢◌, Result, Ok, Err}
use Rattle.report.specs.script_codec.specs.declared.faults.ScriptFault.{ScriptFault}
use Rattle.tunnel_fabric.specs.declared.faults.FabricFault.{FabricFault}

-- A byte that names no actor names no target; the configuration and the lanes are told by scripts of devices alone.
abbrev pub fabric_fault : ScriptFault → FabricFault
fabric_fault ScriptFault.BadMagic = FabricFault.BadMagic
fabric_fault (ScriptFault.BadVersion n) = FabricFault.BadVersion n
fabric_fault (ScriptFault.BadConfig fault) = FabricFault.BadScript 0 (ScriptFault.BadConfig fault)
fabric_fault (ScriptFault.Truncated count) = FabricFault.Truncated count
fabric_fault (ScriptFault.UnknownKind at) = FabricFault.UnknownKind at
fabric_fault (ScriptFault.UnknownActor at) = FabricFault.UnknownTarget at
fabric_fault (ScriptFault.BadMessage at fault) = FabricFault.BadMessage at fault
fabric_fault ScriptFault.TooLong = FabricFault.TooLong
fabric_fault (ScriptFault.AfterEnd at) = FabricFault.AfterEnd at
fabric_fault (ScriptFault.TooManyLines at) = FabricFault.TooManyLines at
fabric_fault (ScriptFault.BadLanes n) = FabricFault.BadScript 0 (ScriptFault.BadLanes n)
fabric_fault ScriptFault.NoMemory = FabricFault.NoMemory

-- what is read as in a script
abbrev pub as_in_script : {A : Type 0} → Result A ScriptFault → Result A FabricFault
as_in_script (Ok x) = Ok x
as_in_script (Err fault) = Err (fabric_fault fault)

-- The fault is not want of memory in disguise.
abbrev pub IsPlainFault : FabricFault → Type 0
IsPlainFault FabricFault.BadMagic = Unit {0}
IsPlainFault (FabricFault.BadVersion n) = Unit {0}
IsPlainFault (FabricFault.BadCount n) = Unit {0}
IsPlainFault (FabricFault.Truncated count) = Unit {0}
IsPlainFault (FabricFault.BadScript at fault) = fault ≢ ScriptFault.NoMemory
IsPlainFault (FabricFault.HasLines at) = Unit {0}
IsPlainFault (FabricFault.UnknownKind at) = Unit {0}
IsPlainFault (FabricFault.UnknownTarget at) = Unit {0}
IsPlainFault (FabricFault.BadMessage at fault) = Unit {0}
IsPlainFault (FabricFault.AfterEnd at) = Unit {0}
IsPlainFault FabricFault.TooLong = Unit {0}
IsPlainFault (FabricFault.TooManyLines at) = Unit {0}
IsPlainFault FabricFault.NoMemory = Unit {0}
