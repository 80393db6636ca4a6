-- Bytes as pairs of hexadecimal digits in lower case.
use Rattle.std.specs.Prelude.{◌≡◌, ℕ, ◌+◌, ◌*◌, ◌==◌, Bool, true, false, List, [], ◌∷◌, ◌++◌, length, Option, Some, None, if◌then◌else◌}
use Rattle.hex.specs.Hex.{encode_lower}
use Rattle.dcd_base.specs.declared.capacity.Tag.{Tag}
use Rattle.text_lines.specs.{Characters.digit_in, WordChains.◌>>?◌ as ◌>>=◌}

-- the byte that two digits say
abbrev pub pair_said : ℕ → ℕ → Option ℕ
pair_said high low = do
  h ← digit_in 16 high
  l ← digit_in 16 low
  Some (h * 16 + l)

-- The bytes that pairs of digits say; None where a character is no such digit or one is left over.
unfoldable pub pairs_said : List ℕ → Option (List ℕ)
pairs_said [] = Some []
pairs_said (c ∷ []) = None
pairs_said (high ∷ low ∷ rest) = do
  byte ← pair_said high low
  bytes ← pairs_said rest
  Some (byte ∷ bytes)

-- the tag that bytes are
abbrev pub tag_of_bytes : List ℕ → Option Tag
tag_of_bytes bytes = if length bytes == 16 then Some (record { 0 = bytes }) else None

-- The tag that a word says: its 16 bytes in order.
unfoldable pub tag_said : List ℕ → Option Tag
tag_said word = do
  bytes ← pairs_said word
  tag_of_bytes bytes

-- The bytes were put at the end, where the word says any.
abbrev pub AppendsPairs : List ℕ → List ℕ → Option (List ℕ) → Bool → Type 0
AppendsPairs old new (Some bytes) true = new ≡ old ++ bytes
AppendsPairs old new (Some bytes) false = ⊥
AppendsPairs old new None true = ⊥
AppendsPairs old new None false = Unit {0}

-- ---- printed

-- the two digits of a byte
abbrev pub pair_text : ℕ → List ℕ
pair_text byte = encode_lower (byte ∷ [])

-- a tag as it is printed
abbrev pub tag_text : Tag → List ℕ
tag_text tag = encode_lower tag.0
