-- What is to come of an input, and how it is printed.
use Rattle.std.specs.Prelude.{◌≡◌, ◌≢◌, ℕ, ◌<◌, ◌≤◌, List, [], ◌∷◌, ◌++◌, length, take, flat_map, codes, decimal, Some}
use Rattle.edge_io.specs.Meanings.{Meaning}
use Rattle.dcd_base.specs.declared.capacity.Extent.{Extent}
use Rattle.journal_core.specs.declared.entries.Entry.{Entry}
use Rattle.report.specs.{Refusals.refusal_line, Texts.line_of, Texts.text, script_codec.specs.Reading.first_fault, script_codec.specs.Scripts.ReadsScript}
use Rattle.report.specs.script_codec.specs.declared.{faults.ScriptFault.ScriptFault, scripts.Script.Script}
use Rattle.host_driver.specs.{Journals.IsDrive, Statuses.drive_end, Words.IsDriveChoice, declared.printed.Printed.Printed, declared.status.DriveStatus.DriveStatus}
use Rattle.host_driver.specs.declared.words.DriveChoice.{DriveChoice}

-- the line of an extent of the table: its start and its length
unfoldable pub extent_line : Extent → List ℕ
extent_line x = line_of (codes "ext" ∷ decimal x.start ∷ decimal x.length ∷ [])

unfoldable pub extent_lines : List Extent → List ℕ
extent_lines table = flat_map extent_line table

unfoldable pub drive_usage_line : List ℕ
drive_usage_line = line_of (codes "usage:" ∷ codes "host_driver" ∷ [])

-- the most bytes that a script has, and the most that are read
abbrev pub most_bytes : ℕ
most_bytes = 16777216

abbrev pub most_of_input : ℕ
most_of_input = 16777217

-- The input reads as a script with this host, which was driven over it; printed is the text of the journal, and the table.
pub record IsDriveText (input : List ℕ) (host most : ℕ) (printed : List ℕ) : Type 0 where
  pub script : Script
  pub journal : List Entry
  pub table : List Extent
  pub reads : ReadsScript input script
  pub known : host < script.config.hosts
  pub drive : IsDrive script.config script.lines host most journal table
  pub is : printed ≡ text script.config journal ++ extent_lines table

-- The input reads as a script without this host.
pub record HasNoSuchHost (input : List ℕ) (host : ℕ) : Type 0 where
  pub script : Script
  pub reads : ReadsScript input script
  pub unknown : script.config.hosts ≤ host

-- A run by these choices over an input is to end so, and to write this. A fault is that of the input, or of its front where that
-- is more than a script may have.
abbrev pub IsDrivePlanned : DriveChoice → List ℕ → DriveStatus → List ℕ → Type 0
IsDrivePlanned choice input DriveStatus.Done printed = IsDriveText input choice.host choice.most printed
IsDrivePlanned choice input (DriveStatus.ScriptRefused fault) printed = (first_fault (take most_of_input input) ≡ Some fault) × (printed ≡ refusal_line fault)
IsDrivePlanned choice input DriveStatus.NoSuchHost printed = HasNoSuchHost input choice.host × (printed ≡ [])
IsDrivePlanned choice input DriveStatus.Usage printed = ⊥
IsDrivePlanned choice input DriveStatus.NoMemory printed = ⊥
IsDrivePlanned choice input DriveStatus.ReadFault printed = ⊥
IsDrivePlanned choice input DriveStatus.WriteFault printed = ⊥

-- Nothing is wrong with the input: it is a script with the host.
pub record IsSoundInput (choice : DriveChoice) (input : List ℕ) : Type 0 where
  pub script : Script
  pub is_script : ReadsScript input script
  pub known : choice.host < script.config.hosts

-- The program.
abbrev pub driver_program : Meaning DriveChoice DriveStatus
driver_program = record {
  asks = IsDriveChoice;
  usage = drive_usage_line;
  most = λ choice. Some most_bytes;
  plan = IsDrivePlanned;
  sound = IsSoundInput;
  end = drive_end;
}

-- ---- over a script

-- What goes out is the text of a journal and the lines of a table.
pub record IsDrivenText (s : Script) (host most : ℕ) (printed : List ℕ) : Type 0 where
  pub journal : List Entry
  pub table : List Extent
  pub drive : IsDrive s.config s.lines host most journal table
  pub is : printed ≡ text s.config journal ++ extent_lines table

-- How it ends over a script, with the host or without it.
abbrev pub EndsOn : Script → DriveChoice → DriveStatus → List ℕ → Type 0
EndsOn s choice DriveStatus.Done printed = (choice.host < s.config.hosts) × IsDrivenText s choice.host choice.most printed
EndsOn s choice DriveStatus.NoSuchHost printed = (s.config.hosts ≤ choice.host) × (printed ≡ [])
EndsOn s choice DriveStatus.Usage printed = ⊥
EndsOn s choice (DriveStatus.ScriptRefused fault) printed = ⊥
EndsOn s choice DriveStatus.NoMemory printed = ⊥
EndsOn s choice DriveStatus.ReadFault printed = ⊥
EndsOn s choice DriveStatus.WriteFault printed = ⊥

-- ---- what is printed

abbrev pub bytes_of : Printed → List ℕ
bytes_of (Printed.Driven device lines) = text device.config device.journal ++ lines
bytes_of (Printed.Fault fault) = refusal_line fault
bytes_of Printed.Nothing = []

abbrev pub IsPrintable : Printed → Type 0
IsPrintable (Printed.Driven device lines) = Unit {0}
IsPrintable (Printed.Fault fault) = fault ≢ ScriptFault.NoMemory
IsPrintable Printed.Nothing = Unit {0}
