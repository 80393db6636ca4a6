-- What is to come of an input, and how it is printed.
use Rattle.std.specs.Prelude.{◌≡◌, ◌≢◌, ℕ, ◌<◌, ◌≤◌, List, [], ◌∷◌, length, codes, decimal, Option, Some, None}
use Rattle.edge_io.specs.Meanings.{Meaning, asks_nothing}
use Rattle.report.specs.{Refusals.refusal_line, Texts.line_of, script_codec.specs.Frames.needed, script_codec.specs.Frames.script_part, script_codec.specs.Frames.text_part}
use Rattle.report.specs.script_codec.specs.{Reading.first_fault, Scripts.ReadsScript, declared.faults.ScriptFault.ScriptFault, declared.scripts.Script.Script}
use Rattle.journal_check.specs.{declared.printing.Printed.Printed, declared.status.CheckStatus.CheckStatus, CheckStatuses.check_end, FirstWrong.IsChecked, Frames.most_input, Frames.IsFrame}

unfoldable pub yes_line : List ℕ
yes_line = line_of (codes "yes" ∷ [])

unfoldable pub no_line : ℕ → List ℕ
no_line line = line_of (codes "no" ∷ codes "at" ∷ decimal line ∷ [])

unfoldable pub check_usage_line : List ℕ
check_usage_line = line_of (codes "usage:" ∷ codes "journal_check" ∷ [])

-- The input is a frame whose script is read, whatever its reserved bits, and this is what checking its text answers.
pub record IsAnsweredFrame (input : List ℕ) (first : Option ℕ) : Type 0 where
  pub frame : IsFrame input
  pub script : Script
  pub reads : ReadsScript (script_part input) script
  pub checked : IsChecked script (text_part input) first

-- The input is a frame whose script has this fault first.
pub record IsRefusedFrame (input : List ℕ) (fault : ScriptFault) : Type 0 where
  pub frame : IsFrame input
  pub faulty : first_fault (script_part input) ≡ Some fault

-- It has fewer bytes than it needs.
pub record IsShortFrame (input : List ℕ) (need have : ℕ) : Type 0 where
  pub short : length input ≤ most_input
  pub need_is : need ≡ needed input
  pub have_is : have ≡ length input
  pub fewer : have < need

-- The run of this input is to end so, and to write this line or nothing.
abbrev pub IsCheckPlannedFor : List ℕ → CheckStatus → List ℕ → Type 0
IsCheckPlannedFor input CheckStatus.Yes printed = IsAnsweredFrame input None × (printed ≡ yes_line)
IsCheckPlannedFor input (CheckStatus.No line) printed = IsAnsweredFrame input (Some line) × (printed ≡ no_line line)
IsCheckPlannedFor input CheckStatus.Usage printed = ⊥
IsCheckPlannedFor input (CheckStatus.ScriptRefused fault) printed = IsRefusedFrame input fault × (printed ≡ refusal_line fault)
IsCheckPlannedFor input CheckStatus.NoMemory printed = ⊥
IsCheckPlannedFor input CheckStatus.ReadFault printed = ⊥
IsCheckPlannedFor input CheckStatus.WriteFault printed = ⊥
IsCheckPlannedFor input (CheckStatus.InputShort need have) printed = IsShortFrame input need have × (printed ≡ [])
IsCheckPlannedFor input CheckStatus.InputLong printed = (most_input < length input) × (printed ≡ [])

-- Nothing is wrong with the input: it is a frame of a script.
pub record IsSoundInput (input : List ℕ) : Type 0 where
  pub frame : IsFrame input
  pub script : Script
  pub reads_as : ReadsScript (script_part input) script

-- The program. It takes no words.
abbrev pub checker : Meaning (Unit {0}) CheckStatus
checker = record {
  asks = asks_nothing;
  usage = check_usage_line;
  most = λ task. Some most_input;
  plan = λ task. IsCheckPlannedFor;
  sound = λ task. IsSoundInput;
  end = check_end;
}

-- ---- what is printed

abbrev pub bytes_of : Printed → List ℕ
bytes_of (Printed.Line line) = line
bytes_of (Printed.Fault fault) = refusal_line fault

abbrev pub IsPrintable : Printed → Type 0
IsPrintable (Printed.Line line) = Unit {0}
IsPrintable (Printed.Fault fault) = fault ≢ ScriptFault.NoMemory

-- This is what the answer to a text comes to.
abbrev pub IsAnswer : Option ℕ → CheckStatus → List ℕ → Type 0
IsAnswer None status printed = (status ≡ CheckStatus.Yes) × (printed ≡ yes_line)
IsAnswer (Some line) status printed = (status ≡ CheckStatus.No line) × (printed ≡ no_line line)

-- The text was checked against the script, and this is what comes of it.
pub record IsAnswered (s : Script) (given : List ℕ) (status : CheckStatus) (printed : List ℕ) : Type 0 where
  pub first : Option ℕ
  pub checked : IsChecked s given first
  pub answer : IsAnswer first status printed
