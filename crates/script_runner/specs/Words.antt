-- The words of the command line, and what they ask for.
use Rattle.std.specs.Prelude.{◌≡◌, ◌⊎◌, ℕ, List, [], ◌∷◌, ◌++◌, codes, Option, Some, None}
use Rattle.edge_io.specs.Words.{IsNumber}
use Rattle.script_runner.specs.declared.words.{Choice.Choice, Mode.Mode}

-- ---- the words that are accepted

-- An item has a name and a value, as two words, or as one with a `=` between them.
abbrev pub IsItem : List ℕ → List ℕ → List (List ℕ) → Type 0
IsItem name value words = (words ≡ name ∷ value ∷ []) ⊎ (words ≡ (name ++ codes "=" ++ value) ∷ [])

-- how a mode is called
abbrev pub mode_name : Mode → List ℕ
mode_name Mode.Serial = codes "serial"
mode_name Mode.Threads = codes "threads"

-- A mode item asks for a mode.
abbrev pub IsModeItem : List (List ℕ) → Mode → Type 0
IsModeItem words mode = IsItem (codes "--mode") (mode_name mode) words

-- how many digits a seed has at most
abbrev pub most_digits : ℕ
most_digits = 18

-- A gen item asks for the generated script of a seed.
abbrev pub IsGenItem : List (List ℕ) → ℕ → Type 0
IsGenItem words n = (digits : List ℕ) × IsNumber most_digits digits n × IsItem (codes "--gen") digits words

-- One mode item, or none, which asks for threads.
abbrev pub AreModeWords : List (List ℕ) → Mode → Type 0
AreModeWords words mode = IsModeItem words mode ⊎ ((words ≡ []) × (mode ≡ Mode.Threads))

-- One gen item, or none, which asks for the script of the source.
abbrev pub AreGenWords : List (List ℕ) → Option ℕ → Type 0
AreGenWords words None = words ≡ []
AreGenWords words (Some n) = IsGenItem words n

-- Accepted are at most one mode item and at most one gen item, in either order.
abbrev pub Accepts : List (List ℕ) → Choice → Type 0
Accepts words choice =
    (modes gens : List (List ℕ)) × AreModeWords modes choice.mode × AreGenWords gens choice.seed × ((words ≡ modes ++ gens) ⊎ (words ≡ gens ++ modes))

-- All else is refused.
abbrev pub AreRefused : List (List ℕ) → Type 0
AreRefused words = (choice : Choice) → Accepts words choice → ⊥

-- The words ask for the script of the source, in some mode.
abbrev pub AskForSource : List (List ℕ) → Type 0
AskForSource words = (mode : Mode) × Accepts words (record { mode = mode; seed = None })

-- ---- the answer

-- It is what the words ask for, or nothing where they are refused.
abbrev pub IsChoice : List (List ℕ) → Option Choice → Type 0
IsChoice words None = AreRefused words
IsChoice words (Some choice) = Accepts words choice
