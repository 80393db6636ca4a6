-- What the ends of a run are to the outside.
use Rattle.std.specs.Prelude.{ℕ}
use Rattle.edge_io.specs.declared.ends.{End.End, Stop.Stop}

-- the exit status of the program
abbrev pub number_of : End → ℕ
number_of End.Done = 0
number_of End.Usage = 2
number_of End.Refused = 3
number_of End.NoMemory = 4
number_of End.ReadFault = 5
number_of End.WriteFault = 6
number_of (End.Answer number) = number
number_of (End.Refusal number) = number

-- the end of a run that stopped short
abbrev pub stop_end : Stop → End
stop_end Stop.Usage = End.Usage
stop_end Stop.NoMemory = End.NoMemory
stop_end Stop.ReadFault = End.ReadFault
stop_end Stop.WriteFault = End.WriteFault

-- An input is decided upon with this end. It is refused only where it is not sound.
abbrev pub IsDecided : End → Type 0 → Type 0
IsDecided End.Done Sound = Unit {0}
IsDecided (End.Answer number) Sound = Unit {0}
IsDecided End.Refused Sound = ¬ Sound
IsDecided (End.Refusal number) Sound = ¬ Sound
IsDecided End.Usage Sound = ⊥
IsDecided End.NoMemory Sound = ⊥
IsDecided End.ReadFault Sound = ⊥
IsDecided End.WriteFault Sound = ⊥

-- It holds unless there is an answer, or memory was wanted.
abbrev pub UnlessAnswered : End → Type 0 → Type 0
UnlessAnswered End.Done P = Unit {0}
UnlessAnswered (End.Answer number) P = Unit {0}
UnlessAnswered End.NoMemory P = Unit {0}
UnlessAnswered End.Refused P = P
UnlessAnswered (End.Refusal number) P = P
UnlessAnswered End.Usage P = P
UnlessAnswered End.ReadFault P = P
UnlessAnswered End.WriteFault P = P
