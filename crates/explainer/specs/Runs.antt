-- How a run of the program ends.
use Rattle.std.specs.Prelude.{◌≡◌, ◌≢◌, ◌⊎◌, ℕ, List, [], Option, Some, None, codes}
use Rattle.dcd_base.specs.Streams.{HasRisen, Passes}
use Rattle.edge_io.specs.ReadEnds.{TakesAll, TakesMore}
use Rattle.journal_check.specs.{Frames.most_input, report.specs.Refusals.refusal_line}
use Rattle.script_text.specs.script_codec.specs.declared.faults.ScriptFault.{ScriptFault}
use Rattle.explainer.specs.{Asking.name_asked, Asking.task_asked, Converting.IsConverted, Converting.IsRefused, Faults.cut_line, Faults.fault_line, Faults.stopped_line}
use Rattle.explainer.specs.declared.{converting.Refusal.Refusal, converting.Task.Task, status.Status.Status}

-- the most bytes of an input: 256 MiB of a text, as many as a script may have, and of a frame a script and a text
abbrev pub most_of : Task → ℕ
most_of Task.ToScript = 268435456
most_of Task.ToText = 16777216
most_of Task.Explain = most_input

unfoldable pub usage_text : List ℕ
usage_text = codes "usage: dcdtext to-script [NAME] | to-text | explain\n"

-- an input that is too long to be read
unfoldable pub long_text_line : List ℕ
long_text_line = codes "text refused: more than 268435456 bytes\n"

unfoldable pub long_frame_line : List ℕ
long_frame_line = codes "frame refused: more than 402653184 bytes\n"

-- the line on a refusal
abbrev pub refusal_text : List ℕ → Refusal → List ℕ
refusal_text name (Refusal.Text place cause) = fault_line name place.line place.column cause
refusal_text name (Refusal.Script fault) = refusal_line fault
refusal_text name (Refusal.Cut need have) = cut_line need have
refusal_text name (Refusal.Stopped line) = stopped_line line
refusal_text name Refusal.NoMemory = []

-- It is a refusal that a line tells.
abbrev pub IsSaid : Refusal → Type 0
IsSaid (Refusal.Text place cause) = Unit {0}
IsSaid (Refusal.Script fault) = fault ≢ ScriptFault.NoMemory
IsSaid (Refusal.Cut need have) = Unit {0}
IsSaid (Refusal.Stopped line) = Unit {0}
IsSaid Refusal.NoMemory = ⊥

-- the line on an input that is too long
abbrev pub long_line : Task → List ℕ
long_line Task.ToScript = long_text_line
long_line Task.ToText = refusal_line ScriptFault.TooLong
long_line Task.Explain = long_frame_line

-- All that is to be written of an input, and the status at the end.
abbrev pub IsOutput : List ℕ → Task → List ℕ → Status → List ℕ → Type 0
IsOutput name task input Status.Done output = IsConverted task input output
IsOutput name task input Status.Refused output = (refusal : Refusal) × (refusal ≢ Refusal.NoMemory) × IsRefused task input refusal × (output ≡ refusal_text name refusal)
IsOutput name task input Status.Usage output = ⊥
IsOutput name task input Status.NoMemory output = ⊥
IsOutput name task input Status.ReadFault output = ⊥
IsOutput name task input Status.WriteFault output = ⊥

-- All that is to be written of an input is written.
pub record IsWrittenOf (name : List ℕ) (task : Task) (input : List ℕ) (old new : Option (List ℕ)) (status : Status) : Type 0 where
  pub output : List ℕ
  pub planned : IsOutput name task input status output
  pub took : Passes old new [] output

-- A front of it is written.
pub record IsBegunOf (name : List ℕ) (task : Task) (input : List ℕ) (old new : Option (List ℕ)) : Type 0 where
  pub status : Status
  pub output : List ℕ
  pub rest : List ℕ
  pub planned : IsOutput name task input status output
  pub took : Passes old new rest output

-- How the run of an input ends: what the sink took and its count of faults, before and after.
abbrev pub EndsOf : List ℕ → Task → List ℕ → Option (List ℕ) → ℕ → Option (List ℕ) → ℕ → Status → Type 0
EndsOf name task input old faults new count Status.Done = IsWrittenOf name task input old new Status.Done
EndsOf name task input old faults new count Status.Refused = IsWrittenOf name task input old new Status.Refused
EndsOf name task input old faults new count Status.Usage = ⊥
EndsOf name task input old faults new count Status.NoMemory = new ≡ old
EndsOf name task input old faults new count Status.ReadFault = ⊥
EndsOf name task input old faults new count Status.WriteFault = IsBegunOf name task input old new × HasRisen faults count

-- How the writing of a line ends after which the run ends so.
abbrev pub EndsLine : List ℕ → Option (List ℕ) → ℕ → Option (List ℕ) → ℕ → Status → Type 0
EndsLine line old faults new count Status.Done = ⊥
EndsLine line old faults new count Status.Refused = Passes old new [] line
EndsLine line old faults new count Status.Usage = ⊥
EndsLine line old faults new count Status.NoMemory = new ≡ old
EndsLine line old faults new count Status.ReadFault = ⊥
EndsLine line old faults new count Status.WriteFault = ((rest : List ℕ) × Passes old new rest line) × HasRisen faults count

-- Nothing was read that could be turned into anything: there was no memory, or a read failed.
abbrev pub EndsUnread : ℕ → ℕ → Option (List ℕ) → Option (List ℕ) → Status → Type 0
EndsUnread reads now old new Status.NoMemory = new ≡ old
EndsUnread reads now old new Status.ReadFault = (new ≡ old) × HasRisen reads now
EndsUnread reads now old new Status.Done = ⊥
EndsUnread reads now old new Status.Refused = ⊥
EndsUnread reads now old new Status.Usage = ⊥
EndsUnread reads now old new Status.WriteFault = ⊥

-- How the line on words that are refused ends.
abbrev pub EndsUsage : Option (List ℕ) → ℕ → Option (List ℕ) → ℕ → Status → Type 0
EndsUsage old faults new count Status.Usage = Passes old new [] usage_text
EndsUsage old faults new count Status.WriteFault = ((rest : List ℕ) × Passes old new rest usage_text) × HasRisen faults count
EndsUsage old faults new count Status.Done = ⊥
EndsUsage old faults new count Status.Refused = ⊥
EndsUsage old faults new count Status.NoMemory = ⊥
EndsUsage old faults new count Status.ReadFault = ⊥

-- The whole input was read, and the run ends as that of the input.
pub record ReadWhole (name : List ℕ) (task : Task) (left now old : Option (List ℕ)) (faults : ℕ) (new : Option (List ℕ)) (count : ℕ) (status : Status) : Type 0 where
  pub input : List ℕ
  pub took : TakesAll (most_of task) left now input
  pub ends : EndsOf name task input old faults new count status

-- More was left than is read, and a line says so.
pub record ReadTooMuch (task : Task) (left now old : Option (List ℕ)) (faults : ℕ) (new : Option (List ℕ)) (count : ℕ) (status : Status) : Type 0 where
  pub took : TakesMore (most_of task) left now
  pub ends : EndsLine (long_line task) old faults new count status

-- An end of a run: the bytes that a source has left or a sink took, and how many of its calls failed; before the run and after it.
abbrev pub StreamEnd : Type 0
StreamEnd = Option (List ℕ) × ℕ

abbrev pub over : {A : Type 0} → (A → Option (List ℕ)) → (A → ℕ) → A → A → StreamEnd × StreamEnd
over bytes faults old new = ((bytes old, faults old), (bytes new, faults new))

-- How a run ends that turns what the source has left.
abbrev pub EndsTurned : List ℕ → Task → StreamEnd × StreamEnd → StreamEnd × StreamEnd → Status → Type 0
EndsTurned name task source sink status =
    ReadWhole name task source.0.0 source.1.0 sink.0.0 sink.0.1 sink.1.0 sink.1.1 status
    ⊎ (ReadTooMuch task source.0.0 source.1.0 sink.0.0 sink.0.1 sink.1.0 sink.1.1 status
    ⊎ EndsUnread source.0.1 source.1.1 sink.0.0 sink.1.0 status)

-- How a run ends, by what its words ask for. Where they are refused, nothing is read.
abbrev pub EndsAsked : List ℕ → Option Task → StreamEnd × StreamEnd → StreamEnd × StreamEnd → Status → Type 0
EndsAsked name (Some task) source sink status = EndsTurned name task source sink status
EndsAsked name None source sink status = (source.1.0 ≡ source.0.0) × EndsUsage sink.0.0 sink.0.1 sink.1.0 sink.1.1 status

-- How a run by these words ends.
abbrev pub EndsRun : List (List ℕ) → StreamEnd × StreamEnd → StreamEnd × StreamEnd → Status → Type 0
EndsRun words source sink status = EndsAsked (name_asked words) (task_asked words) source sink status
