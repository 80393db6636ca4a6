-- How a value is laid out in bytes, field by field, and what it means to read it back.
use Rattle.std.specs.Prelude.{◌≡◌, ℕ, zero, suc, ◌^◌, ◌<◌, Bool, nat_lt, List, [], ◌∷◌, length, flat_map, take, drop, replicate, IsTrue, bit_and}
use Rattle.std.specs.List.{list_all, AllByRecursion}
use Rattle.std.specs.Int.{Width, w8, w16, w32, w64, to_le_bytes, from_le_bytes, bytes_low_first, byte_len}
use Rattle.dcd_base.specs.Words.{flag_of}

-- A field: a number, low byte first; a byte of which only some bits are read; so many bytes as they are;
-- bytes that are free on input and zero on output; bytes that are fixed on output alone.
pub data Field : Type 0 where
  Number : Width → ℕ → Field
  Masked : ℕ → ℕ → Field
  Raw : ℕ → List ℕ → Field
  Reserved : ℕ → Field
  Fixed : List ℕ → Field

-- a byte whose lowest bit is the flag
abbrev pub flag : Bool → Field
flag b = Masked 1 (flag_of b)

-- ---- numbers as they are written, low byte first

abbrev pub u8_bytes : ℕ → List ℕ
u8_bytes n = to_le_bytes w8 n

abbrev pub u16_bytes : ℕ → List ℕ
u16_bytes n = to_le_bytes w16 n

abbrev pub u24_bytes : ℕ → List ℕ
u24_bytes n = bytes_low_first 0 3 n

abbrev pub u32_bytes : ℕ → List ℕ
u32_bytes n = to_le_bytes w32 n

abbrev pub u64_bytes : ℕ → List ℕ
u64_bytes n = to_le_bytes w64 n

-- the number that two bytes are, low byte first
abbrev pub u16_in : List ℕ → ℕ
u16_in bytes = from_le_bytes w16 bytes

-- ---- layouts

-- the bytes that are written for a field
abbrev pub spell : Field → List ℕ
spell (Number w n) = to_le_bytes w n
spell (Masked mask n) = n ∷ []
spell (Raw n bytes) = bytes
spell (Reserved n) = replicate n 0
spell (Fixed bytes) = bytes

-- the one spelling of a layout
abbrev pub spelling : List Field → List ℕ
spelling fields = flat_map spell fields

abbrev pub is_byte : ℕ → Bool
is_byte b = nat_lt b 256

-- whether the field's value has a spelling
abbrev pub FitsField : Field → Type 0
FitsField (Number w n) = n < 256 ^ byte_len w
FitsField (Masked mask n) = bit_and n mask ≡ n
FitsField (Raw n bytes) = (length bytes ≡ n) × IsTrue (list_all is_byte bytes)
FitsField (Reserved n) = Unit {0}
FitsField (Fixed bytes) = Unit {0}

-- what a piece of the input must be to read as the field
abbrev pub ReadsField : List ℕ → Field → Type 0
ReadsField piece (Number w n) = piece ≡ to_le_bytes w n
ReadsField piece (Masked mask n) = (b : ℕ) × (piece ≡ b ∷ []) × (bit_and b mask ≡ n)
ReadsField piece (Raw n bytes) = piece ≡ bytes
ReadsField piece (Reserved n) = length piece ≡ n
ReadsField piece (Fixed bytes) = length piece ≡ length bytes

-- The bytes are these fields, one after another, and nothing more.
abbrev pub ReadsFields : List ℕ → List Field → Type 0
ReadsFields bytes [] = bytes ≡ []
ReadsFields bytes (field ∷ fields) =
    ReadsField (take (length (spell field)) bytes) field × ReadsFields (drop (length (spell field)) bytes) fields

-- The bytes are the one spelling of a value with these fields.
pub record Writes (fields : List Field) (bytes : List ℕ) : Type 0 where
  pub fits : AllByRecursion FitsField fields
  pub spelled : bytes ≡ spelling fields

-- The bytes read as a value with these fields, whatever its reserved and ignored bits are.
pub record Reads (bytes : List ℕ) (fields : List Field) : Type 0 where
  pub fits : AllByRecursion FitsField fields
  pub in_range : IsTrue (list_all is_byte bytes)
  pub agrees : ReadsFields bytes fields

-- the number at a place in a payload, low byte first
abbrev pub number_at : Width → List ℕ → ℕ → ℕ
number_at w payload i = from_le_bytes w (drop i payload)

-- the first n pieces of this size
abbrev pub pieces : ℕ → ℕ → List ℕ → List (List ℕ)
pieces size zero bytes = []
pieces size (suc n) bytes = take size bytes ∷ pieces size n (drop size bytes)
