-- What is looked at in the words of the command line, item by item.
use Rattle.std.specs.Prelude.{ℕ, Bool, nat_eq, List, [], ◌∷◌, length, take, drop, codes, Option, Some, None, if◌then◌else◌}
use Rattle.std.specs.Cmp.Lexicographic.{pointwise}
use Rattle.edge_io.specs.Words.{is_number, number_in}
use Rattle.script_runner.specs.{Words.most_digits, declared.words.Choice.Choice, declared.words.Mode.Mode}

abbrev pub same_word : List ℕ → List ℕ → Bool
same_word w v = pointwise nat_eq w v

-- the value in front, and the words behind it
abbrev pub Found : Type 0 → Type 0
Found T = Option (T × List (List ℕ))

abbrev pub joined_in_front : List ℕ → List ℕ → List (List ℕ) → Found (List ℕ)
joined_in_front joined w rest = if same_word (take (length joined) w) joined then Some (drop (length joined) w, rest) else None

abbrev pub item_in_front : List ℕ → List ℕ → List (List ℕ) → Found (List ℕ)
item_in_front name joined [] = None
item_in_front name joined (w ∷ []) = joined_in_front joined w []
item_in_front name joined (w ∷ v ∷ rest) = if same_word w name then Some (v, rest) else joined_in_front joined w (v ∷ rest)

abbrev pub mode_named : List ℕ → Option Mode
mode_named v = if same_word v (codes "serial") then Some Mode.Serial else (if same_word v (codes "threads") then Some Mode.Threads else None)

abbrev pub with_rest : {T : Type 0} → Option T → List (List ℕ) → Found T
with_rest None rest = None
with_rest (Some value) rest = Some (value, rest)

abbrev pub mode_found : Found (List ℕ) → Found Mode
mode_found None = None
mode_found (Some found) = with_rest (mode_named found.0) found.1

abbrev pub mode_in_front : List (List ℕ) → Found Mode
mode_in_front words = mode_found (item_in_front (codes "--mode") (codes "--mode=") words)

abbrev pub seed_in : List ℕ → Option ℕ
seed_in digits = if is_number most_digits digits then Some (number_in digits) else None

abbrev pub seed_found : Found (List ℕ) → Found ℕ
seed_found None = None
seed_found (Some found) = with_rest (seed_in found.0) found.1

abbrev pub seed_in_front : List (List ℕ) → Found ℕ
seed_in_front words = seed_found (item_in_front (codes "--gen") (codes "--gen=") words)

-- no word is left
abbrev pub at_the_end : Choice → List (List ℕ) → Option Choice
at_the_end choice [] = Some choice
at_the_end choice (w ∷ words) = None

abbrev pub choice_seeded : Mode → Found ℕ → Option Choice
choice_seeded mode None = None
choice_seeded mode (Some found) = at_the_end (record { mode = mode; seed = Some found.0 }) found.1

abbrev pub behind_mode : Mode → List (List ℕ) → Option Choice
behind_mode mode [] = Some (record { mode = mode; seed = None })
behind_mode mode (w ∷ words) = choice_seeded mode (seed_in_front (w ∷ words))

abbrev pub choice_moded : ℕ → Found Mode → Option Choice
choice_moded seed None = None
choice_moded seed (Some found) = at_the_end (record { mode = found.0; seed = Some seed }) found.1

abbrev pub behind_seed : ℕ → List (List ℕ) → Option Choice
behind_seed seed [] = Some (record { mode = Mode.Threads; seed = Some seed })
behind_seed seed (w ∷ words) = choice_moded seed (mode_in_front (w ∷ words))

abbrev pub after_seed : Found ℕ → Option Choice
after_seed None = None
after_seed (Some found) = behind_seed found.0 found.1

abbrev pub without_mode : List (List ℕ) → Option Choice
without_mode [] = Some (record { mode = Mode.Threads; seed = None })
without_mode (w ∷ words) = after_seed (seed_in_front (w ∷ words))

abbrev pub after_mode : List (List ℕ) → Found Mode → Option Choice
after_mode words None = without_mode words
after_mode words (Some found) = behind_mode found.0 found.1

abbrev pub choice_of : List (List ℕ) → Option Choice
choice_of words = after_mode words (mode_in_front words)
