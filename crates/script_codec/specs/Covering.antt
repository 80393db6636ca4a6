-- A journal has the lines of a script, and the journal of a run of the lines in order.
use Rattle.std.specs.Prelude.{◌≡◌, ◌≢◌, ℕ, ◌+◌, ◌-◌, ◌*◌, ◌<◌, Bool, true, false, List, [], ◌∷◌, length, count_by, slice_get, Some, AllPairs}
use Rattle.std.specs.List.{AllByRecursion}
use Rattle.cci_codec.specs.dcd_base.specs.declared.steps.Actor.{Actor}
use Rattle.journal_core.specs.declared.{acts.Act.Act, entries.Entry.Entry}
use Rattle.script_codec.specs.declared.{script_line.Line.Line, scripts.Script.Script}

abbrev pub is_line : Line → Bool
is_line (Line.Do actor lane act) = true
is_line Line.Mark = false

-- passes are numbered host by host and lane by lane, then comes the manager, then the sanitizer
abbrev pub pass_of : ℕ → ℕ → Actor → ℕ → ℕ
pass_of hosts lanes (Actor.Host h) lane = h * lanes + lane
pass_of hosts lanes Actor.Manager lane = hosts * lanes
pass_of hosts lanes Actor.Sanitizer lane = hosts * lanes + 1

-- the entry is of its line, which has its actor, its act, and the lane of its pass
pub record IsOfLine (s : Script) (e : Entry) : Type 0 where
  pub counted : 0 < e.line
  pub lane : ℕ
  pub line : slice_get s.lines (e.line - 1) ≡ Some (Line.Do e.actor lane e.act)
  pub pass : e.pass ≡ pass_of s.config.hosts s.lanes e.actor lane

-- Each line that is no mark has one entry, and those of each pass stand in the order of the lines.
pub record Covers (journal : List Entry) (s : Script) : Type 0 where
  pub count : length journal ≡ count_by is_line s.lines
  pub once : AllPairs (λ (e f : Entry). e.line ≢ f.line) journal
  pub lines : AllByRecursion (IsOfLine s) journal
  pub order : AllPairs (λ (e f : Entry). e.pass ≡ f.pass → e.line < f.line) journal

-- ---- a run of the lines in order
-- the entry of the line of this number, which is an act of the actor in this lane
pub record IsEntryOf (hosts lanes number : ℕ) (actor : Actor) (lane : ℕ) (act : Act) (e : Entry) : Type 0 where
  pub number_is : e.line ≡ number
  pub actor_is : e.actor ≡ actor
  pub act_is : e.act ≡ act
  pub pass_is : e.pass ≡ pass_of hosts lanes actor lane

-- The lines, the first of which has this number, ran in order: each that is no mark has the next entry.
abbrev pub Runs : ℕ → ℕ → ℕ → List Line → List Entry → Type 0
Runs hosts lanes number [] [] = Unit {0}
Runs hosts lanes number [] (e ∷ entries) = ⊥
Runs hosts lanes number (Line.Mark ∷ lines) entries = Runs hosts lanes (number + 1) lines entries
Runs hosts lanes number (Line.Do actor lane act ∷ lines) [] = ⊥
Runs hosts lanes number (Line.Do actor lane act ∷ lines) (e ∷ entries) =
    IsEntryOf hosts lanes number actor lane act e × Runs hosts lanes (number + 1) lines entries
