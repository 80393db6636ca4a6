-- What is to come of what the words ask for, and how it is printed.
use Rattle.std.specs.Prelude.{◌≡◌, ◌≢◌, ℕ, List, take, Option, Some, None, Ok}
use Rattle.dcd_base.specs.Streams.{Passes}
use Rattle.journal_core.specs.{declared.entries.Entry.Entry, Merging.merged}
use Rattle.script_gen.specs.{Generated.generated, script_codec.specs.Reading.first_fault, script_codec.specs.Reading.most_bytes, script_codec.specs.Reading.script_in}
use Rattle.script_gen.specs.script_codec.specs.{Scripts.ReadsScript, declared.faults.ScriptFault.ScriptFault, declared.scripts.Script.Script}
use Rattle.report.specs.{Texts.summary, Texts.text, Refusals.refusal_line, Refusals.usage_line}
use Rattle.edge_io.specs.Meanings.{Meaning}
use Rattle.script_runner.specs.{Running.IsScriptRun, Statuses.status_end, Threads.CanBeLent, Words.IsChoice, declared.outcome.Printed.Printed, declared.status.Status.Status}
use Rattle.script_runner.specs.declared.words.{Choice.Choice, Mode.Mode}

-- The input reads as a script, whatever its reserved bits, and the text is that of a run of it in this mode.
pub record IsTextOf (mode : Mode) (input printed : List ℕ) : Type 0 where
  pub script : Script
  pub journal : List Entry
  pub reads : ReadsScript input script
  pub runs : IsScriptRun mode script journal
  pub is : printed ≡ text script.config journal

-- It is the summary of a run of the generated script in this mode.
pub record IsSummaryOf (mode : Mode) (seed : ℕ) (printed : List ℕ) : Type 0 where
  pub journal : List Entry
  pub runs : IsScriptRun mode (generated seed) journal
  pub is : printed ≡ summary (generated seed).config journal

-- ---- what is to come of a choice and an input

-- the most bytes that are read: one more than a script may have
abbrev pub most_read : ℕ
most_read = 16777217

-- with a seed nothing is read
abbrev pub most_for : Option ℕ → Option ℕ
most_for None = Some most_bytes
most_for (Some seed) = None

-- Without a seed the text of the input is asked for, and with one the summary.
abbrev pub IsAskedText : Mode → Option ℕ → List ℕ → List ℕ → Type 0
IsAskedText mode None input printed = IsTextOf mode input printed
IsAskedText mode (Some seed) input printed = IsSummaryOf mode seed printed

-- It is the line on the first fault of the input, or of its front where that is more than is read.
abbrev pub IsFaultLine : Option ℕ → List ℕ → ScriptFault → List ℕ → Type 0
IsFaultLine None input fault printed = (first_fault (take most_read input) ≡ Some fault) × (printed ≡ refusal_line fault)
IsFaultLine (Some seed) input fault printed = ⊥

-- A run by this choice over an input is to end so, and to write this.
abbrev pub IsPlanned : Choice → List ℕ → Status → List ℕ → Type 0
IsPlanned choice input Status.Done printed = IsAskedText choice.mode choice.seed input printed
IsPlanned choice input (Status.ScriptRefused fault) printed = IsFaultLine choice.seed input fault printed
IsPlanned choice input Status.Usage printed = ⊥
IsPlanned choice input Status.NoMemory printed = ⊥
IsPlanned choice input Status.ReadFault printed = ⊥
IsPlanned choice input Status.WriteFault printed = ⊥

-- Nothing is wrong with the input: it is a script. With a seed there is none.
abbrev pub IsSoundFor : Option ℕ → List ℕ → Type 0
IsSoundFor None input = (script : Script) × (script_in (take most_read input) ≡ Ok script)
IsSoundFor (Some seed) input = Unit {0}

-- The program.
abbrev pub runner : Meaning Choice Status
runner = record {
  asks = IsChoice;
  usage = usage_line;
  most = λ (choice : Choice). most_for choice.seed;
  plan = IsPlanned;
  sound = λ (choice : Choice). IsSoundFor choice.seed;
  end = status_end;
}

-- ---- what is printed

-- The sink took a front of the whole.
abbrev pub PassesInPart : Option (List ℕ) → Option (List ℕ) → List ℕ → Type 0
PassesInPart old new whole = (rest : List ℕ) × Passes old new rest whole

abbrev pub bytes_of : Printed → List ℕ
bytes_of (Printed.Text device) = text device.config device.journal
bytes_of (Printed.Summary device) = summary device.config device.journal
bytes_of (Printed.MergedText control shards) = text control.config (merged control.entries shards.items)
bytes_of (Printed.MergedSummary control shards) = summary control.config (merged control.entries shards.items)
bytes_of (Printed.Fault fault) = refusal_line fault

abbrev pub IsPrintable : Printed → Type 0
IsPrintable (Printed.Text device) = Unit {0}
IsPrintable (Printed.Summary device) = Unit {0}
IsPrintable (Printed.MergedText control shards) = CanBeLent control.config control.entries shards.items
IsPrintable (Printed.MergedSummary control shards) = CanBeLent control.config control.entries shards.items
IsPrintable (Printed.Fault fault) = fault ≢ ScriptFault.NoMemory
