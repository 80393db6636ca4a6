-- Which line each pass of a script has to do next.
use Rattle.std.specs.Prelude.{◌≡◌, ℕ, suc, ◌+◌, ◌-◌, ◌*◌, ◌<◌, ◌≤◌, nat_lt, true, false, List, [], ◌∷◌, length, slice_get, slice_index, Some, if◌then◌else◌}
use Rattle.report.specs.script_codec.specs.{declared.script_line.Line.Line, declared.scripts.Script.Script, Covering.pass_of}
use Rattle.journal_check.specs.Following.{IsNumbered, has_pass}

-- where the pass of a line stands: the index of its next line; a mark is of no pass
abbrev pub pass_front : Script → List ℕ → Line → ℕ
pass_front s fronts (Line.Do actor lane act) = slice_index fronts (pass_of s.config.hosts s.lanes actor lane)
pass_front s fronts Line.Mark = 0

-- the lines, the first of which has this index, with a mark in place of each that its pass has done
abbrev pub undone : Script → List ℕ → ℕ → List Line → List Line
undone s fronts i [] = []
undone s fronts i (line ∷ lines) = (if nat_lt i (pass_front s fronts line) then Line.Mark else line) ∷ undone s fronts (suc i) lines

-- the script with the lines that are still to be done
abbrev pub undone_of : Script → List ℕ → Script
undone_of s fronts = record s { lines = undone s fronts 0 s.lines }

-- The index is that of a line of the pass, or stands behind the last line.
pub record IsFront (s : Script) (pass index : ℕ) : Type 0 where
  pub within : index ≤ length s.lines
  pub of_pass : (line : Line) → slice_get s.lines index ≡ Some line → has_pass s.config.hosts s.lanes pass line ≡ true

-- There is one for each pass.
pub record AreFronts (s : Script) (fronts : List ℕ) : Type 0 where
  pub count : length fronts ≡ s.config.hosts * s.lanes + 2
  pub each : (pass : ℕ) → pass < length fronts → IsFront s pass (slice_index fronts pass)

-- The index is that of the first line of the pass from this one on, or the number of lines where there is none.
pub record IsNextFront (s : Script) (pass start index : ℕ) : Type 0 where
  pub least : start ≤ index
  pub front : IsFront s pass index
  pub none : (i : ℕ) (line : Line) → start ≤ i → i < index → slice_get s.lines i ≡ Some line → has_pass s.config.hosts s.lanes pass line ≡ false

-- The line of this number is an act of the pass, which has to do it next.
pub record IsDue (s : Script) (fronts : List ℕ) (number pass : ℕ) : Type 0 where
  pub numbered : IsNumbered s number pass
  pub known : pass < length fronts
  pub front : slice_index fronts pass ≡ number - 1
