-- What was read, and what is read next.
use Rattle.std.specs.Prelude.{Result, Ok, Err}
use Rattle.text_lines.specs.declared.faults.TextFault.{TextFault}

-- What is read next, unless there was a fault.
infixl 10 ◌>>!◌
abbrev pub ◌>>!◌ : {A B : Type 0} → Result A TextFault → (A → Result B TextFault) → Result B TextFault
Ok x >>! next = next x
Err fault >>! next = Err fault
