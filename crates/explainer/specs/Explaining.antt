-- What explaining a text answers.
use Rattle.std.specs.Prelude.{◌≡◌, ℕ, List, Result, Ok, Err}
use Rattle.journal_core.specs.declared.entries.Entry.{Entry}
use Rattle.script_text.specs.script_codec.specs.declared.scripts.Script.{Script}
use Rattle.journal_check.specs.FirstWrong.{IsFirstWrong, IsJournalOf}
use Rattle.explainer.specs.Explanations.{explanation}

-- The bytes are the explanation of the journal that the text tells.
pub record ExplainsText (s : Script) (given bytes : List ℕ) : Type 0 where
  pub journal : List Entry
  pub told : IsJournalOf s given journal
  pub is : bytes ≡ explanation s journal

-- That, where the text is right; else the number of the first wrong line. No text has both.
abbrev pub IsExplained : Script → List ℕ → Result (List ℕ) ℕ → Type 0
IsExplained s given (Ok bytes) = ExplainsText s given bytes
IsExplained s given (Err line) = IsFirstWrong s given line
