-- What is still to come of a line and of a text.
use Rattle.std.specs.Prelude.{◌≡◌, ℕ, ◌+◌, Bool, true, false, List, [], ◌∷◌, length, Option, Some, None}
use Rattle.text_lines.specs.Words.{words_in, without_return, lines_in}

-- The words that are still to come of a line, the number of the line, and that of the next word: both from 1.
pub record UnreadWords : Type 0 where
  pub line : ℕ
  pub word : ℕ
  pub words : List (List ℕ)

abbrev pub none_left : List (List ℕ) → Bool
none_left [] = true
none_left (word ∷ words) = false

abbrev pub leading_word : List (List ℕ) → List ℕ
leading_word [] = []
leading_word (word ∷ words) = word

-- whether no word comes any more
abbrev pub is_done : UnreadWords → Bool
is_done u = none_left u.words

-- the next word, or nothing
abbrev pub first_unread : UnreadWords → List ℕ
first_unread u = leading_word u.words

abbrev pub behind_first : ℕ → ℕ → List (List ℕ) → UnreadWords
behind_first line word [] = record { line = line; word = word; words = [] }
behind_first line word (first ∷ words) = record { line = line; word = word + 1; words = words }

-- what comes behind the next word
abbrev pub behind_next : UnreadWords → UnreadWords
behind_next u = behind_first u.line u.word u.words

-- a line, where it has a word
abbrev pub with_line : UnreadWords → Bool → List UnreadWords → List UnreadWords
with_line u true lines = lines
with_line u false lines = u ∷ lines

-- the words of a line of this number
abbrev pub line_at : ℕ → List ℕ → UnreadWords
line_at n line = record { line = n; word = 1; words = words_in (without_return line) }

-- the lines that have words, numbered from n
abbrev pub unread_lines : ℕ → List (List ℕ) → List UnreadWords
unread_lines n [] = []
unread_lines n (line ∷ lines) = with_line (line_at n line) (is_done (line_at n line)) (unread_lines (n + 1) lines)

-- The lines that are still to come of a text, those that have words, and the number of the line behind the last one.
pub record Ahead : Type 0 where
  pub lines : List UnreadWords
  pub end : ℕ

-- what is still to come of a text whose first line has this number
abbrev pub ahead_from : ℕ → List ℕ → Ahead
ahead_from n text = record { lines = unread_lines n (lines_in text); end = n + length (lines_in text) }

-- a line before them, where it has a word
abbrev pub ahead_with : UnreadWords → Ahead → Ahead
ahead_with u a = record { lines = with_line u (is_done u) a.lines; end = a.end }

abbrev pub first_of : List UnreadWords → Option UnreadWords
first_of [] = None
first_of (u ∷ lines) = Some u

-- the next line
abbrev pub next_line : Ahead → Option UnreadWords
next_line a = first_of a.lines

abbrev pub all_of : List ℕ → Ahead
all_of text = ahead_from 1 text

-- What asking for the next line answers: that line, or that none comes.
abbrev pub IsNextLine : Ahead → Ahead → Option UnreadWords → Type 0
IsNextLine old new (Some u) = (old.lines ≡ u ∷ new.lines) × (new.end ≡ old.end)
IsNextLine old new None = (old.lines ≡ []) × (new.lines ≡ []) × (new.end ≡ old.end)
