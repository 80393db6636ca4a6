-- Journals that have some lines of a script, each the first of its pass that was left.
use Rattle.std.specs.Prelude.{◌≡◌, ◌≢◌, ℕ, zero, suc, ◌-◌, ◌<◌, Bool, true, false, ◌==◌, not, List, [], ◌∷◌, ◌++◌, count_by, length, slice_get, take, IsTrue, Some}
use Rattle.std.specs.List.{list_all}
use Rattle.dcd_base.specs.declared.steps.Actor.{Actor}
use Rattle.device_plain.specs.Devices.{Plain}
use Rattle.journal_core.specs.declared.{acts.Act.Act, entries.Entry.Entry}
use Rattle.report.specs.script_codec.specs.{declared.script_line.Line.Line, declared.scripts.Script.Script, Covering.IsOfLine, Covering.is_line, Covering.pass_of}
use Rattle.journal_check.specs.Claims.{behind_line, claim_in, Claims}

-- the lines with a mark at this index, so that all others keep their numbers
abbrev pub without_line : List Line → ℕ → List Line
without_line [] i = []
without_line (line ∷ lines) zero = Line.Mark ∷ lines
without_line (line ∷ lines) (suc i) = line ∷ without_line lines i

-- the script without_line the line of the entry
abbrev pub left_by_entry : Entry → Script → Script
left_by_entry e s = record s { lines = without_line s.lines (e.line - 1) }

-- whether the line is an act of this pass
abbrev pub has_pass : ℕ → ℕ → ℕ → Line → Bool
has_pass hosts lanes pass (Line.Do actor lane act) = pass_of hosts lanes actor lane == pass
has_pass hosts lanes pass Line.Mark = false

-- The entry is of a line of the script, and none of its pass stands before that line.
pub record IsNextInPass (s : Script) (e : Entry) : Type 0 where
  pub of_line : IsOfLine s e
  pub first : IsTrue (list_all (λ line. not (has_pass s.config.hosts s.lanes e.pass line)) (take (e.line - 1) s.lines))

-- Each entry is of the next line of its pass, those of the entries before it being left out.
abbrev pub FollowsPasses : Script → List Entry → Type 0
FollowsPasses s [] = Unit {0}
FollowsPasses s (e ∷ journal) = IsNextInPass s e × FollowsPasses (left_by_entry e s) journal

-- what is left of the script then
abbrev pub left_after : Script → List Entry → Script
left_after s [] = s
left_after s (e ∷ journal) = left_after (left_by_entry e s) journal

-- ---- the order that a text claims

-- what stands behind so many lines
abbrev pub behind_lines : ℕ → List ℕ → List ℕ
behind_lines zero given = given
behind_lines (suc n) given = behind_lines n (behind_line given)

-- The lines claim the entries, each of which is of the next line of its pass, up to the last line of the script, or up to
-- a line of the text that claims no line that is the next of its pass.
pub record IsClaimedEnd (s : Script) (given : List ℕ) (journal : List Entry) : Type 0 where
  pub fewer : length journal < count_by is_line s.lines
  pub no_next : (e : Entry) → IsNextInPass (left_after s journal) e → claim_in (behind_lines (length journal) given) ≢ e.line

abbrev pub EndsClaims : Script → List ℕ → List Entry → Bool → Type 0
EndsClaims s given journal true = length journal ≡ count_by is_line s.lines
EndsClaims s given journal false = IsClaimedEnd s given journal

pub record IsFollowed (s : Script) (given : List ℕ) (journal : List Entry) (all : Bool) : Type 0 where
  pub follows : FollowsPasses s journal
  pub claims : Claims given journal
  pub ends : EndsClaims s given journal all

-- The line of this number is an act of the pass.
pub record IsNumbered (s : Script) (number pass : ℕ) : Type 0 where
  pub counted : 0 < number
  pub actor : Actor
  pub lane : ℕ
  pub act : Act
  pub line : slice_get s.lines (number - 1) ≡ Some (Line.Do actor lane act)
  pub pass_is : pass ≡ pass_of s.config.hosts s.lanes actor lane

-- One entry more is in the journal, that of the line of this number and of this pass.
pub record StepsLine (s : Script) (old new : Plain) (number pass : ℕ) : Type 0 where
  pub entry : Entry
  pub line_is : entry.line ≡ number
  pub pass_is : entry.pass ≡ pass
  pub of_line : IsOfLine s entry
  pub config : new.config ≡ old.config
  pub journal : new.journal ≡ old.journal ++ entry ∷ []
