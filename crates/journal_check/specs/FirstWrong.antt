-- The first line of a text that stands in no text of a journal of the script.
use Rattle.std.specs.Prelude.{◌≡◌, ℕ, ◌<◌, List, map, Option, Some, None}
use Rattle.journal_core.specs.{declared.entries.Entry.Entry, Merging.Numbered}
use Rattle.report.specs.{script_codec.specs.declared.scripts.Script.Script, script_codec.specs.Covering.Covers, Texts.text}
use Rattle.device_plain.specs.{device_rules.specs.Legal.Exclusive, device_rules.specs.Legal.Legal, isolation_laws.specs.Solo.Isolated}
use Rattle.journal_check.specs.Lines.{first_lines}

-- It is the text of a legal journal that covers the script.
pub record IsRightText (s : Script) (given : List ℕ) : Type 0 where
  pub journal : List Entry
  pub legal : Legal s.config journal
  pub covers : Covers journal s
  pub is : given ≡ text s.config journal

-- Its first lines, so many and each ended, are the first lines of such a text.
pub record IsRightTo (s : Script) (given : List ℕ) (count : ℕ) : Type 0 where
  pub journal : List Entry
  pub legal : Legal s.config journal
  pub covers : Covers journal s
  pub lines : List ℕ
  pub given_has : first_lines count given ≡ Some lines
  pub text_has : first_lines count (text s.config journal) ≡ Some lines

-- It is no such text; up to the line before this one it is right, and with this one it is not. A line that is missing
-- or has no end is wrong.
pub record IsFirstWrong (s : Script) (given : List ℕ) (line : ℕ) : Type 0 where
  pub none : IsRightText s given → ⊥
  pub before : (count : ℕ) → count < line → IsRightTo s given count
  pub wrong : IsRightTo s given line → ⊥

-- What checking the text answers: no line where it is such a text, else the number of the first wrong one.
abbrev pub IsChecked : Script → List ℕ → Option ℕ → Type 0
IsChecked s given None = IsRightText s given
IsChecked s given (Some line) = IsFirstWrong s given line

-- Each legal journal that covers the script and has this text is exclusive and isolated.
abbrev pub TellsLawful : Script → List ℕ → Type 0
TellsLawful s given = (journal : List Entry) → Legal s.config journal → Covers journal s → given ≡ text s.config journal
    → Exclusive s.config journal × Isolated s.config journal

-- So it is where no line is wrong.
abbrev pub IfNoneWrong : Option ℕ → Type 0 → Type 0
IfNoneWrong None P = P
IfNoneWrong (Some line) P = Unit {0}

-- The journal is legal and numbered, covers the script, and has this text.
pub record IsJournalOf (s : Script) (given : List ℕ) (journal : List Entry) : Type 0 where
  pub legal : Legal s.config journal
  pub numbered : Numbered journal
  pub covers : Covers journal s
  pub is : given ≡ text s.config journal

-- the entry with 0 in place of the count of its stamp
abbrev pub without_count : Entry → Entry
without_count e = record e { stamp = record { number = e.stamp.number; count = 0 } }

-- The entries are the same but for the counts of their stamps.
abbrev pub SameButCounts : List Entry → List Entry → Type 0
SameButCounts a b = map without_count a ≡ map without_count b
