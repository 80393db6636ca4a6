-- The lines of a phase, and which of them are a pass's.
use Rattle.std.specs.Prelude.{◌≡◌, ℕ, suc, ◌+◌, ◌==◌, Bool, true, false, List, [], ◌∷◌, ◌++◌, map, if◌then◌else◌}
use Rattle.journal_core.specs.{declared.acts.Act.Act, Merging.Call}
use Rattle.script_codec.specs.{declared.script_line.Line.Line, Covering.pass_of}

-- what a pass has to do: the number of a line, and its act
pub record Task : Type 0 where
  pub line : ℕ
  pub act : Act

-- the task of which a call is
abbrev pub task_of : Call → Task
task_of c = record { line = c.line; act = c.act }

-- the tasks of a pass: its lines of a phase, in order, the first of which has this number
abbrev pub tasks : ℕ → ℕ → ℕ → ℕ → List Line → List Task
tasks hosts lanes pass number [] = []
tasks hosts lanes pass number (Line.Mark ∷ lines) = tasks hosts lanes pass (number + 1) lines
tasks hosts lanes pass number (Line.Do actor lane act ∷ lines) =
    if pass_of hosts lanes actor lane == pass
    then record { line = number; act = act } ∷ tasks hosts lanes pass (number + 1) lines
    else tasks hosts lanes pass (number + 1) lines

-- whether a line is one of the pass's
abbrev pub is_line_of : ℕ → ℕ → ℕ → Line → Bool
is_line_of hosts lanes pass (Line.Do actor lane act) = pass_of hosts lanes actor lane == pass
is_line_of hosts lanes pass Line.Mark = false

-- whether a line is no other pass's
abbrev pub is_no_others : ℕ → ℕ → ℕ → Line → Bool
is_no_others hosts lanes pass (Line.Do actor lane act) = pass_of hosts lanes actor lane == pass
is_no_others hosts lanes pass Line.Mark = true

-- the calls of a pass have grown by those of the tasks but the last ones, each once and in order, and by nothing else
pub record GrownTo (todo left : List Task) (old new : List Call) : Type 0 where
  pub more : List Call
  pub grown : new ≡ old ++ more
  pub each : map task_of more ++ left ≡ todo

-- by all of them
abbrev pub Grown : List Task → List Call → List Call → Type 0
Grown todo old new = GrownTo todo [] old new

-- a phase: how many hosts and lanes there are, its lines and the number of the first
pub record Phase : Type 0 where
  pub hosts : ℕ
  pub lanes : ℕ
  pub first : ℕ
  pub lines : List Line

abbrev pub phase : ℕ → ℕ → ℕ → List Line → Phase
phase hosts lanes first lines = record { hosts = hosts; lanes = lanes; first = first; lines = lines }

abbrev pub tasks_in : Phase → ℕ → List Task
tasks_in f pass = tasks f.hosts f.lanes pass f.first f.lines

-- how many lines the first phase of these lines has, with the mark that ends it
abbrev pub phase_length : List Line → ℕ
phase_length [] = 0
phase_length (Line.Mark ∷ lines) = 1
phase_length (Line.Do actor lane act ∷ lines) = suc (phase_length lines)
