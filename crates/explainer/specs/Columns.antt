-- Where a word of a text stands.
use Rattle.std.specs.Prelude.{ℕ, zero, suc, ◌+◌, ◌-◌, List, length, drop}
use Rattle.script_text.specs.text_lines.specs.{Characters.passed_from, Characters.is_gap, Characters.is_plain, Extents.before, Extents.after, Words.without_return}

-- the text from the line on that comes so many lines later
abbrev pub lines_later : ℕ → List ℕ → List ℕ
lines_later zero text = text
lines_later (suc n) text = lines_later n (after 10 text)

-- the line of this number, from 1, without its end; nothing where there is none
abbrev pub line_said : ℕ → List ℕ → List ℕ
line_said line text = without_return (before 10 (lines_later (line - 1) text))

-- from the next word on; where none comes, from the comment or the end on
abbrev pub from_word : List ℕ → List ℕ
from_word bytes = drop (passed_from is_gap 0 bytes) bytes

-- behind the word that begins here
abbrev pub after_word : List ℕ → List ℕ
after_word bytes = from_word (drop (passed_from is_plain 0 bytes) bytes)

abbrev pub words_later : ℕ → List ℕ → List ℕ
words_later zero bytes = bytes
words_later (suc n) bytes = words_later n (after_word bytes)

-- the line from the word of this number on, from 1
abbrev pub word_onward : ℕ → List ℕ → List ℕ
word_onward word line = words_later (word - 1) (from_word line)

-- The column of a word, in bytes from 1: one more than the bytes before it. A word that is missing would stand before the
-- comment or the end of its line.
unfoldable pub column_of : ℕ → ℕ → List ℕ → ℕ
column_of line word text = length (line_said line text) - length (word_onward word (line_said line text)) + 1
