-- What a text, a script or a frame is turned into.
use Rattle.std.specs.Prelude.{◌≡◌, ◌≢◌, ℕ, ◌<◌, ◌≤◌, List, length, Some, Result, Ok, Err}
use Rattle.explainer.specs.{Explaining.IsExplained, Columns.column_of, declared.columns.Place.Place, declared.converting.Refusal.Refusal, declared.converting.Task.Task}
use Rattle.script_text.specs.{Layouts.Says, Printing.script_text, Texts.script_said, script_codec.specs.Frames.needed, script_codec.specs.Frames.script_part, script_codec.specs.Frames.text_part}
use Rattle.script_text.specs.script_codec.specs.{Reading.first_fault, Scripts.ReadsScript, Writing.script_bytes, declared.faults.ScriptFault.ScriptFault, declared.scripts.Script.Script}
use Rattle.script_text.specs.text_lines.specs.declared.faults.{Cause.Cause, TextFault.TextFault}

-- The input has all bytes of its script, which is read, and this is what explaining its text answers.
pub record IsFrameExplained (input : List ℕ) (answer : Result (List ℕ) ℕ) : Type 0 where
  pub whole : needed input ≤ length input
  pub script : Script
  pub reads : ReadsScript (script_part input) script
  pub explained : IsExplained script (text_part input) answer

-- The input is a text, and these are the bytes of the script that it says; or it is a script, and this is its one text; or it is
-- a frame of a script and the text of a run of it, and this is its explanation.
abbrev pub IsConverted : Task → List ℕ → List ℕ → Type 0
IsConverted Task.ToScript input output = (script : Script) × Says input script × (output ≡ script_bytes script)
IsConverted Task.ToText input output = (script : Script) × ReadsScript input script × (output ≡ script_text script)
IsConverted Task.Explain input output = IsFrameExplained input (Ok output)

-- The text has this first fault, at this place.
pub record IsTextFault (input : List ℕ) (place : Place) (cause : Cause) : Type 0 where
  pub word : ℕ
  pub fault : script_said input ≡ Err (TextFault.Refused place.line word cause)
  pub column : place.column ≡ column_of place.line word input

-- The bytes are no script, and this is their first fault.
pub record IsScriptFault (bytes : List ℕ) (fault : ScriptFault) : Type 0 where
  pub real : fault ≢ ScriptFault.NoMemory
  pub is : first_fault bytes ≡ Some fault

-- The frame is cut short of its script.
pub record IsCutFrame (input : List ℕ) (need have : ℕ) : Type 0 where
  pub need_is : need ≡ needed input
  pub have_is : have ≡ length input
  pub fewer : have < need

-- The input is none of that kind, for its first fault. Memory may be wanting at any time.
abbrev pub IsRefused : Task → List ℕ → Refusal → Type 0
IsRefused task input Refusal.NoMemory = Unit {0}
IsRefused Task.ToScript input (Refusal.Text place cause) = IsTextFault input place cause
IsRefused Task.ToScript input (Refusal.Script fault) = ⊥
IsRefused Task.ToScript input (Refusal.Cut need have) = ⊥
IsRefused Task.ToScript input (Refusal.Stopped line) = ⊥
IsRefused Task.ToText input (Refusal.Text place cause) = ⊥
IsRefused Task.ToText input (Refusal.Script fault) = IsScriptFault input fault
IsRefused Task.ToText input (Refusal.Cut need have) = ⊥
IsRefused Task.ToText input (Refusal.Stopped line) = ⊥
IsRefused Task.Explain input (Refusal.Text place cause) = ⊥
IsRefused Task.Explain input (Refusal.Script fault) = (needed input ≤ length input) × IsScriptFault (script_part input) fault
IsRefused Task.Explain input (Refusal.Cut need have) = IsCutFrame input need have
IsRefused Task.Explain input (Refusal.Stopped line) = IsFrameExplained input (Err line)

-- What converting answers: the output, or why there is none.
abbrev pub Converts : Task → List ℕ → Result (List ℕ) Refusal → Type 0
Converts task input (Ok output) = IsConverted task input output
Converts task input (Err refusal) = IsRefused task input refusal
