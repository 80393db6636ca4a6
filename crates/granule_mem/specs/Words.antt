-- The words of one granule, and where they lie.
use Rattle.std.specs.Prelude.{◌≡◌, ◌==◌, ◌<◌, ℕ, List, length, take, slice_index_or, Option, Some, None, if◌then◌else◌}
use Rattle.std.specs.{BTreeMap.is_at, Map.lookup, Ordering.nat_cmp}
use Rattle.granule_mem.specs.{declared.kept.Kept.Kept, Contents.word_among}

-- the words, each beside its number, wherever they lie
abbrev pub kept_words : Kept → List (ℕ × ℕ)
kept_words (Kept.Few few) = few.items
kept_words (Kept.Many alloc map) = map.entries

-- the value of the first entry with this number
abbrev pub found : List (ℕ × ℕ) → ℕ → Option ℕ
found words word = lookup (is_at (nat_cmp word)) words

-- One word is this value, and each other word is what it was.
abbrev pub PutsWord : List (ℕ × ℕ) → List (ℕ × ℕ) → ℕ → ℕ → Type 0
PutsWord old new word value = (w : ℕ) → word_among new w ≡ (if word == w then value else word_among old w)

-- Each word is the same.
abbrev pub HasSameWords : List (ℕ × ℕ) → List (ℕ × ℕ) → Type 0
HasSameWords a b = (w : ℕ) → word_among a w ≡ word_among b w

-- No word before this place has the number, and the one here has it.
pub record IsFirst (words : List (ℕ × ℕ)) (word place : ℕ) : Type 0 where
  pub within : place < length words
  pub here : (slice_index_or words place (0, 0)).0 ≡ word
  pub none_before : found (take place words) word ≡ None

-- Where a word first stands, if it stands there at all.
abbrev pub IsPlaceOf : List (ℕ × ℕ) → ℕ → Option ℕ → Type 0
IsPlaceOf words word (Some place) = IsFirst words word place
IsPlaceOf words word None = found words word ≡ None
