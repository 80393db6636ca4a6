-- Reading a script line by line: its head, what is still to come, and what the next line takes of it.
use Rattle.std.specs.Prelude.{◌≡◌, ◌≢◌, ℕ, ◌+◌, ◌-◌, ◌<◌, ◌≤◌, IsTrue, Bool, true, false, List, [], ◌∷◌, length, Option, Some, None, Result, Ok, Err}
use Rattle.script_codec.specs.{Fields.◌>>=◌, Lines.lines_from, Reading.head_in, Reading.most_lines, Reading.script_in, Scripts.is_sound_line, Scripts.ReadsScript, Unread.Unread}
use Rattle.script_codec.specs.declared.{faults.ScriptFault.ScriptFault, heads.Head.Head, script_line.Line.Line, scripts.Script.Script}

-- the line, then those that come behind it
abbrev pub line_then : Line → Result (List Line) ScriptFault → Result (List Line) ScriptFault
line_then line rest = rest >>= (λ lines. Ok (line ∷ lines))

-- the script of a head and its lines
abbrev pub with_head : Head → List Line → Script
with_head head lines = record { version = head.version; lanes = head.lanes; config = head.config; lines = lines }

-- the same, unless the lines have a fault
abbrev pub head_then : Head → Result (List Line) ScriptFault → Result Script ScriptFault
head_then head rest = rest >>= (λ lines. Ok (with_head head lines))

-- The bytes begin with the head, and are it and what is still to come behind it; where they are a script, they read as it by
-- the layout.
pub record Begins (bytes : List ℕ) (head : Head) (unread : Unread) : Type 0 where
  pub place : ℕ
  pub headed : head_in bytes ≡ Ok (head, place)
  pub is : script_in bytes ≡ head_then head unread.rest
  pub hosts_are : unread.hosts ≡ head.config.hosts
  pub lanes_are : unread.lanes ≡ head.lanes
  pub left_is : unread.left ≡ 65536
  pub reads : (script : Script) → script_in bytes ≡ Ok script → ReadsScript bytes script
  pub short : length bytes ≤ 16777216

-- The bytes begin with no head: the fault is their first, and it comes before the lines.
abbrev pub FailsInHead : List ℕ → ScriptFault → Type 0
FailsInHead bytes fault = (head_in bytes ≡ Err fault) × (script_in bytes ≡ Err fault)

-- What beginning answers: the head and what is still to come, or the first fault of the head. Memory may be wanting at
-- any time.
abbrev pub HasBegun : List ℕ → Result (Head × Unread) ScriptFault → Type 0
HasBegun bytes (Ok begun) = Begins bytes begun.0 begun.1
HasBegun bytes (Err fault) = fault ≢ ScriptFault.NoMemory → FailsInHead bytes fault

-- what is still to come behind a head
abbrev pub behind_head : Head → List ℕ → ℕ → Unread
behind_head head bytes place = record {
  hosts = head.config.hosts;
  lanes = head.lanes;
  left = most_lines;
  rest = lines_from most_lines head.config.hosts head.lanes bytes place;
}

-- The same of the head and the place behind it.
abbrev pub IsBegunAt : List ℕ → Result (Head × ℕ) ScriptFault → Type 0
IsBegunAt bytes (Ok begun) = Begins bytes begun.0 (behind_head begun.0 bytes begun.1)
IsBegunAt bytes (Err fault) = fault ≢ ScriptFault.NoMemory → FailsInHead bytes fault

-- The line came first of what was still to come, and it is sound.
pub record TakesLine (old new : Unread) (line : Line) : Type 0 where
  pub is : old.rest ≡ line_then line new.rest
  pub left_is : old.left ≡ new.left + 1
  pub sound : IsTrue (is_sound_line old.hosts old.lanes line)

-- What asking for the next line answers: that line, or that none comes, or the fault that comes first.
abbrev pub IsNext : Unread → Unread → Result (Option Line) ScriptFault → Type 0
IsNext old new (Ok (Some line)) = TakesLine old new line
IsNext old new (Ok None) = (old.rest ≡ Ok []) × (new ≡ old)
IsNext old new (Err fault) = (fault ≢ ScriptFault.NoMemory → old.rest ≡ Err fault) × (new ≡ old)

-- What reading the next line into a place answers, which is this line then: true where there was one.
abbrev pub IsRead : Unread → Unread → Line → Result Bool ScriptFault → Type 0
IsRead old new line (Ok true) = IsNext old new (Ok (Some line))
IsRead old new line (Ok false) = IsNext old new (Ok None)
IsRead old new line (Err fault) = IsNext old new (Err fault)

-- ---- the same by place
-- This line begins at the place, and behind it is a place from which so many but one may still come.
pub record TakesAt (left hosts lanes : ℕ) (bytes : List ℕ) (at : ℕ) (found : Line × ℕ) : Type 0 where
  pub is : lines_from left hosts lanes bytes at ≡ line_then found.0 (lines_from (left - 1) hosts lanes bytes found.1)
  pub some : 0 < left
  pub sound : IsTrue (is_sound_line hosts lanes found.0)
  pub within : found.1 ≤ length bytes

-- What reading the line at the place answers, which is this line then: the place behind it, or none where the script ends.
abbrev pub IsReadAt : ℕ → ℕ → ℕ → List ℕ → ℕ → Line → Result (Option ℕ) ScriptFault → Type 0
IsReadAt left hosts lanes bytes at line (Ok (Some next)) = TakesAt left hosts lanes bytes at (line, next)
IsReadAt left hosts lanes bytes at line (Ok None) = lines_from left hosts lanes bytes at ≡ Ok []
IsReadAt left hosts lanes bytes at line (Err fault) = fault ≢ ScriptFault.NoMemory → lines_from left hosts lanes bytes at ≡ Err fault
