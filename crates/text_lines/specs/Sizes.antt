-- The block sizes that a word says, as a mask.
use Rattle.std.specs.Prelude.{ℕ, zero, suc, ◌+◌, ◌/◌, ◌%◌, ◌^◌, Bool, ◌&&◌, ◌==◌, nat_lt, List, [], ◌∷◌, ◌++◌, Option, Some, None, if◌then◌else◌, codes}
use Rattle.std.specs.{Int.is_power_of_two, List.flat_map}
use Rattle.text_lines.specs.{WordChains.◌>>?◌ as ◌>>=◌, Numbers.number_said, Numbers.size_text}

-- a character in front of the pieces behind it
abbrev pub put_in_piece : ℕ → List (List ℕ) → List (List ℕ)
put_in_piece c [] = (c ∷ []) ∷ []
put_in_piece c (piece ∷ pieces) = (c ∷ piece) ∷ pieces

-- the pieces of a word that commas part
unfoldable pub comma_pieces : List ℕ → List (List ℕ)
comma_pieces [] = [] ∷ []
comma_pieces (c ∷ cs) = if c == 44 then [] ∷ comma_pieces cs else put_in_piece c (comma_pieces cs)

-- the pieces behind a comma, where there is one
abbrev pub pieces_behind : Option (List ℕ) → List (List ℕ)
pieces_behind None = []
pieces_behind (Some rest) = comma_pieces rest

-- a number of at most 64 bits
abbrev pub with_64_bits : ℕ → Option ℕ
with_64_bits n = if nat_lt n (2 ^ 64) then Some n else None

-- the mask with a size, whose bit is the size itself
abbrev pub with_size : ℕ → ℕ → Option ℕ
with_size mask size = if mask / size % 2 == 1 then Some mask else with_64_bits (mask + size)

-- a block size is a power of two
abbrev pub is_size : ℕ → Bool
is_size n = nat_lt n (2 ^ 64) && is_power_of_two n

abbrev pub sound_size : ℕ → Option ℕ
sound_size n = if is_size n then Some n else None

-- the block size that a piece says
abbrev pub size_said : List ℕ → Option ℕ
size_said piece = do
  n ← number_said piece
  sound_size n

-- the mask of these sizes and of those that pieces say
unfoldable pub sizes_from : ℕ → List (List ℕ) → Option ℕ
sizes_from mask [] = Some mask
sizes_from mask (piece ∷ pieces) = do
  size ← size_said piece
  more ← with_size mask size
  sizes_from more pieces

-- The mask of the sizes that a word says, which commas part: bit n of it stands for 2^n bytes.
unfoldable pub sizes_said : List ℕ → Option ℕ
sizes_said word = sizes_from 0 (comma_pieces word)

-- ---- printed sizes

abbrev pub size_where : Bool → ℕ → List ℕ
size_where set size = if set then size ∷ [] else []

-- the sizes of the lowest bits of a mask, the smallest first
unfoldable pub sizes_below : ℕ → ℕ → List ℕ
sizes_below mask zero = []
sizes_below mask (suc n) = sizes_below mask n ++ size_where (mask / 2 ^ n % 2 == 1) (2 ^ n)

abbrev pub comma_then : ℕ → List ℕ
comma_then size = codes "," ++ size_text size

-- a size behind others, or the first one
abbrev pub size_behind : Bool → ℕ → List ℕ
size_behind first size = if first then size_text size else comma_then size

abbrev pub commas_text : List ℕ → List ℕ
commas_text [] = []
commas_text (size ∷ sizes) = size_text size ++ flat_map comma_then sizes

-- the sizes of a mask of 64 bits as they are printed
unfoldable pub sizes_text : ℕ → List ℕ
sizes_text mask = commas_text (sizes_below mask 64)
