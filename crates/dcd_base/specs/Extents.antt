-- An extent with its tag, forty bytes.
use Rattle.std.specs.{Prelude.List, Prelude.[], Prelude.◌∷◌, Prelude.ℕ, List.AllByRecursion, Int.w16, Int.w64}
use Rattle.dcd_base.specs.{declared.capacity.Extent.Extent, Layouts.Field, Layouts.FitsField, Layouts.Number, Layouts.Raw, Layouts.Reserved, Layouts.number_at, Layouts.spelling, Payloads.tag_at}

-- start, length, tag, sequence number; the last six bytes are reserved
abbrev pub extent_fields : Extent → List Field
extent_fields x = Number w64 x.start ∷ Number w64 x.length ∷ Raw 16 x.tag.0 ∷ Number w16 x.sequence ∷ Reserved 6 ∷ []

-- an extent as it is written
unfoldable pub extent_bytes : Extent → List ℕ
extent_bytes x = spelling (extent_fields x)

-- the extent that forty bytes are
abbrev pub whole_extent : List ℕ → Extent
whole_extent bytes = record { start = number_at w64 bytes 0; length = number_at w64 bytes 8; tag = tag_at bytes 16; sequence = number_at w16 bytes 32 }

-- Its numbers and its tag are those of forty bytes.
abbrev pub FitsExtent : Extent → Type 0
FitsExtent x = AllByRecursion FitsField (extent_fields x)
