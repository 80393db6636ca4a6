-- The journal that a text tells, or its first wrong line.
use Rattle.std.specs.Prelude.{◌≡◌, ℕ, List, Option, Some, None, Result, Ok, Err}
use Rattle.device_plain.specs.Devices.{Plain}
use Rattle.journal_core.specs.declared.entries.Entry.{Entry}
use Rattle.report.specs.script_codec.specs.declared.scripts.Script.{Script}
use Rattle.journal_check.specs.FirstWrong.{IsFirstWrong, IsJournalOf}

-- What comparing a text with that of the journal that it claims answers: no line where it is this journal's text, else
-- the number of the first wrong one.
abbrev pub IsCompared : Script → List ℕ → List Entry → Option ℕ → Type 0
IsCompared s given journal None = IsJournalOf s given journal
IsCompared s given journal (Some line) = IsFirstWrong s given line

-- The device has the script's configuration, and its journal is the one that the text tells.
pub record IsDeviceOf (s : Script) (given : List ℕ) (device : Plain) : Type 0 where
  pub config : device.config ≡ s.config
  pub journal : IsJournalOf s given device.journal

-- What following a text answers: that device, else the number of the first wrong line.
abbrev pub IsReplayed : Script → List ℕ → Result Plain ℕ → Type 0
IsReplayed s given (Ok device) = IsDeviceOf s given device
IsReplayed s given (Err line) = IsFirstWrong s given line
