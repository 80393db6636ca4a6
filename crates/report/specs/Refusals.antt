-- What is printed where there is no journal.
use Rattle.std.specs.Prelude.{ℕ, List, [], ◌∷◌, codes, decimal}
use Rattle.script_codec.specs.{FaultNumbers.fault_number, FaultNumbers.fault_place, declared.faults.ScriptFault.ScriptFault}
use Rattle.report.specs.Texts.{line_of}

-- a script that is refused for the fault of this number at this place
unfoldable pub refused_at : ℕ → ℕ → List ℕ
refused_at number place = line_of (codes "script" ∷ codes "refused:" ∷ decimal number ∷ codes "at" ∷ decimal place ∷ [])

abbrev pub refusal_line : ScriptFault → List ℕ
refusal_line fault = refused_at (fault_number fault) (fault_place fault)

-- the words that the program takes
unfoldable pub usage_line : List ℕ
usage_line = line_of (codes "usage:" ∷ codes "dcdsim" ∷ codes "[--mode" ∷ codes "serial|threads]" ∷ codes "[--gen" ∷ codes "N]" ∷ [])
