-- Which line of the script a line of a text claims to be of.
use Rattle.std.specs.Prelude.{◌≡◌, ℕ, ◌==◌, List, [], ◌∷◌, if◌then◌else◌}
use Rattle.edge_io.specs.Words.{number_in}
use Rattle.journal_core.specs.declared.entries.Entry.{Entry}

-- the bytes before the first space
abbrev pub first_word : List ℕ → List ℕ
first_word [] = []
first_word (byte ∷ bytes) = if byte == 32 then [] else byte ∷ first_word bytes

-- what stands behind the first byte of this value
abbrev pub behind : ℕ → List ℕ → List ℕ
behind mark [] = []
behind mark (byte ∷ bytes) = if byte == mark then bytes else behind mark bytes

abbrev pub behind_word : List ℕ → List ℕ
behind_word bytes = behind 32 bytes

abbrev pub behind_line : List ℕ → List ℕ
behind_line bytes = behind 10 bytes

-- the number that the second word writes
abbrev pub claim_in : List ℕ → ℕ
claim_in bytes = number_in (first_word (behind_word bytes))

-- The lines of the text, one after another, claim to be of the lines of these entries.
abbrev pub Claims : List ℕ → List Entry → Type 0
Claims given [] = Unit {0}
Claims given (e ∷ journal) = (claim_in given ≡ e.line) × Claims (behind_line given) journal
