-- Which extent a word says, and how an extent is printed.
use Rattle.std.specs.Prelude.{ℕ, ◌+◌, ◌-◌, ◌^◌, Bool, ◌&&◌, nat_le, List, ◌++◌, take, drop, Option, Some, None, Result, Ok, Err, if◌then◌else◌, codes}
use Rattle.dcd_base.specs.{declared.capacity.Extent.Extent, Words.zero_tag}
use Rattle.text_lines.specs.{Characters.passed_from, Characters.is_other, WordChains.◌>>?◌ as ◌>>=◌, Numbers.number_said, Numbers.size_text, declared.word_faults.NumberFault.NumberFault}

-- what stands before the first such character, and what stands behind it
abbrev pub before : ℕ → List ℕ → List ℕ
before sign word = take (passed_from (is_other sign) 0 word) word

abbrev pub after : ℕ → List ℕ → List ℕ
after sign word = drop (passed_from (is_other sign) 0 word + 1) word

-- an extent without a tag
abbrev pub untagged : ℕ → ℕ → Extent
untagged start size = record { start = start; length = size; tag = zero_tag; sequence = 0 }

-- The extent that a word says: its start, a plus sign, and its length.
unfoldable pub extent_said : List ℕ → Option Extent
extent_said word = do
  start ← number_said (before 43 word)
  size ← number_said (after 43 word)
  Some (untagged start size)

abbrev pub fits_64 : Extent → Bool
fits_64 x = nat_le x.start (2 ^ 64 - 1) && nat_le x.length (2 ^ 64 - 1)

-- the extent, where its numbers have at most 64 bits
abbrev pub limited_extent : Option Extent → Result Extent NumberFault
limited_extent None = Err NumberFault.NoNumber
limited_extent (Some x) = if fits_64 x then Ok x else Err NumberFault.TooLarge

-- the extent of a start and a length that were read; one out of form comes before one that is too large
abbrev pub extent_of_parts : Result ℕ NumberFault → Result ℕ NumberFault → Result Extent NumberFault
extent_of_parts (Ok start) (Ok size) = Ok (untagged start size)
extent_of_parts (Ok start) (Err fault) = Err fault
extent_of_parts (Err NumberFault.NoNumber) size = Err NumberFault.NoNumber
extent_of_parts (Err NumberFault.TooLarge) (Err NumberFault.NoNumber) = Err NumberFault.NoNumber
extent_of_parts (Err NumberFault.TooLarge) (Err NumberFault.TooLarge) = Err NumberFault.TooLarge
extent_of_parts (Err NumberFault.TooLarge) (Ok size) = Err NumberFault.TooLarge

-- an extent as it is printed
unfoldable pub extent_text : Extent → List ℕ
extent_text x = size_text x.start ++ codes "+" ++ size_text x.length
