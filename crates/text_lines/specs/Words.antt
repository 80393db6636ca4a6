-- The words of a line and the lines of a text.
use Rattle.std.specs.Prelude.{ℕ, Bool, true, false, ◌==◌, List, [], ◌∷◌, ◌++◌, if◌then◌else◌}
use Rattle.std.specs.List.{flat_map}
use Rattle.text_lines.specs.Characters.{is_gap, is_hash, is_plain}

-- whether a word goes on where these bytes begin
abbrev pub goes_on : List ℕ → Bool
goes_on [] = false
goes_on (b ∷ bytes) = is_plain b

-- a byte in front of the words behind it: it is part of the first of them where that goes on, else a word of its own
abbrev pub put_front : ℕ → Bool → List (List ℕ) → List (List ℕ)
put_front b false words = (b ∷ []) ∷ words
put_front b true [] = (b ∷ []) ∷ []
put_front b true (word ∷ words) = (b ∷ word) ∷ words

-- the words of a line, up to its comment
unfoldable pub words_in : List ℕ → List (List ℕ)
words_in [] = []
words_in (b ∷ bytes) =
    if is_hash b then []
    else if is_gap b then words_in bytes
    else put_front b (goes_on bytes) (words_in bytes)

-- a word, where there is one, before the words behind it
abbrev pub ahead : List ℕ → List (List ℕ) → List (List ℕ)
ahead [] words = words
ahead (c ∷ cs) words = (c ∷ cs) ∷ words

-- a line without the carriage return at its end
abbrev pub without_return : List ℕ → List ℕ
without_return [] = []
without_return (b ∷ []) = if b == 13 then [] else b ∷ []
without_return (b ∷ c ∷ bytes) = b ∷ without_return (c ∷ bytes)

-- a byte in front of the lines behind it
abbrev pub put_in_line : ℕ → List (List ℕ) → List (List ℕ)
put_in_line b [] = (b ∷ []) ∷ []
put_in_line b (line ∷ lines) = (b ∷ line) ∷ lines

-- the lines of a text: what stands before each line feed, and what stands behind the last, if anything does
unfoldable pub lines_in : List ℕ → List (List ℕ)
lines_in [] = []
lines_in (b ∷ bytes) = if b == 10 then [] ∷ lines_in bytes else put_in_line b (lines_in bytes)

-- a further word of a line: a space, then the word
abbrev pub spaced : List ℕ → List ℕ
spaced word = 32 ∷ word

-- the text of a line that has these words, with its line feed
unfoldable pub line_text : List (List ℕ) → List ℕ
line_text [] = 10 ∷ []
line_text (word ∷ words) = word ++ flat_map spaced words ++ 10 ∷ []
