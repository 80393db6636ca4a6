-- What is read of bytes that stand behind others.
use Rattle.std.specs.Prelude.{ℕ, ◌+◌, ◌≤◌, Result, Ok, Err}
use Rattle.script_codec.specs.declared.faults.ScriptFault.{ScriptFault}

-- the same fault, so many bytes further on
abbrev pub moved_fault : ℕ → ScriptFault → ScriptFault
moved_fault k ScriptFault.BadMagic = ScriptFault.BadMagic
moved_fault k (ScriptFault.BadVersion version) = ScriptFault.BadVersion version
moved_fault k (ScriptFault.BadConfig fault) = ScriptFault.BadConfig fault
moved_fault k (ScriptFault.Truncated count) = ScriptFault.Truncated (k + count)
moved_fault k (ScriptFault.UnknownKind at) = ScriptFault.UnknownKind (k + at)
moved_fault k (ScriptFault.UnknownActor at) = ScriptFault.UnknownActor (k + at)
moved_fault k (ScriptFault.BadMessage at fault) = ScriptFault.BadMessage (k + at) fault
moved_fault k ScriptFault.TooLong = ScriptFault.TooLong
moved_fault k (ScriptFault.AfterEnd at) = ScriptFault.AfterEnd (k + at)
moved_fault k (ScriptFault.TooManyLines at) = ScriptFault.TooManyLines (k + at)
moved_fault k (ScriptFault.BadLanes lanes) = ScriptFault.BadLanes lanes
moved_fault k ScriptFault.NoMemory = ScriptFault.NoMemory

abbrev pub moved : {A : Type 0} → ℕ → Result A ScriptFault → Result A ScriptFault
moved k (Ok x) = Ok x
moved k (Err fault) = Err (moved_fault k fault)

-- The place of the fault, if it has one behind the head, is no further than so many bytes.
abbrev pub IsWithin : ℕ → ScriptFault → Type 0
IsWithin count ScriptFault.BadMagic = Unit {0}
IsWithin count (ScriptFault.BadVersion version) = Unit {0}
IsWithin count (ScriptFault.BadConfig fault) = Unit {0}
IsWithin count (ScriptFault.Truncated have) = have ≤ count
IsWithin count (ScriptFault.UnknownKind at) = at ≤ count
IsWithin count (ScriptFault.UnknownActor at) = at ≤ count
IsWithin count (ScriptFault.BadMessage at fault) = at ≤ count
IsWithin count ScriptFault.TooLong = Unit {0}
IsWithin count (ScriptFault.AfterEnd at) = at ≤ count
IsWithin count (ScriptFault.TooManyLines at) = at ≤ count
IsWithin count (ScriptFault.BadLanes lanes) = Unit {0}
IsWithin count ScriptFault.NoMemory = Unit {0}
