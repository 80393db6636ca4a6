-- The words of each line of a text.
use Rattle.std.specs.{Prelude.ℕ, Prelude.◌<◌, Prelude.List, Prelude.length, Prelude.map, List.AllByRecursion}
use Rattle.text_lines.specs.{Characters.IsTextWord, Unread.UnreadWords, Unread.all_of}

-- the words of each line that has any
abbrev pub words_of_lines : List ℕ → List (List (List ℕ))
words_of_lines text = map (λ (u : UnreadWords). u.words) (all_of text).lines

-- At least one word, each of which a printed line has as one.
pub record IsWordLine (words : List (List ℕ)) : Type 0 where
  pub some : 0 < length words
  pub each : AllByRecursion IsTextWord words
