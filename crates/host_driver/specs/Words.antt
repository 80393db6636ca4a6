-- The words of the command line: the number of a host and the most bytes that its driver takes.
use Rattle.std.specs.Prelude.{◌≡◌, ℕ, ◌&&◌, List, [], ◌∷◌, Option, Some, None, if◌then◌else◌}
use Rattle.edge_io.specs.Words.{IsNumber, is_number, number_in}
use Rattle.host_driver.specs.declared.words.DriveChoice.{DriveChoice}

-- how many digits each has at most
abbrev pub host_digits : ℕ
host_digits = 2

abbrev pub bound_digits : ℕ
bound_digits = 18

-- Accepted are two words, a host's number and a number of bytes.
pub record AsksToDrive (words : List (List ℕ)) (host most : ℕ) : Type 0 where
  pub host_word : List ℕ
  pub most_word : List ℕ
  pub two : words ≡ host_word ∷ most_word ∷ []
  pub host_is : IsNumber host_digits host_word host
  pub most_is : IsNumber bound_digits most_word most

-- All else is refused.
abbrev pub AsksForNoDrive : List (List ℕ) → Type 0
AsksForNoDrive words = (host most : ℕ) → AsksToDrive words host most → ⊥

-- It is what the words ask for, or nothing where they are refused.
abbrev pub IsDriveChoice : List (List ℕ) → Option DriveChoice → Type 0
IsDriveChoice words None = AsksForNoDrive words
IsDriveChoice words (Some choice) = AsksToDrive words choice.host choice.most

-- The same, word by word.
abbrev pub drive_choice : List (List ℕ) → Option DriveChoice
drive_choice (h ∷ m ∷ []) =
    if is_number host_digits h && is_number bound_digits m then Some (record { host = number_in h; most = number_in m }) else None
drive_choice words = None
