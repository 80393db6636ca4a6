-- The record of an event, in 128 bytes.
use Rattle.std.specs.Prelude.{◌≡◌, ℕ, not, ◌==◌, nat_lt, List, [], ◌∷◌, ◌++◌, take, drop, slice_index, bit_and, Option, Some, None, Result, Ok, Err, if◌then◌else◌}
use lib.Pointwise.{pointwise}
use Rattle.event_records.specs.declared.{faults.RecordFault.RecordFault, events.EventKind.EventKind, events.Event.Event}
use Rattle.std.specs.Int.{w8, w16, w32, w64}
use Rattle.dcd_base.specs.Extents.{extent_fields}
use Rattle.dcd_base.specs.Layouts.{Field, flag, spelling, number_at, Number, Raw, Reserved, Fixed, Reads, Writes}

-- the identifier of Dynamic Capacity event records
abbrev pub record_uuid : List ℕ
record_uuid = 0xca ∷ 0x95 ∷ 0xaf ∷ 0xa7 ∷ 0xf1 ∷ 0x83 ∷ 0x40 ∷ 0x18 ∷ 0x8c ∷ 0x2f ∷ 0x95 ∷ 0x26 ∷ 0x8e ∷ 0x10 ∷ 0x1a ∷ 0x2a ∷ []

abbrev pub kind_number : EventKind → ℕ
kind_number EventKind.Add = 0
kind_number EventKind.Release = 1
kind_number EventKind.Forced = 2
kind_number EventKind.RegionUpdated = 3
kind_number EventKind.AddResponse = 4
kind_number EventKind.Released = 5

-- bytes 16 to 47: length, flags, handle, related handle, timestamp, other header fields
abbrev pub header_fields : ℕ → List Field
header_fields handle =
    Number w8 128 ∷ Reserved 3 ∷ Number w16 handle ∷ Reserved 2 ∷ Reserved 8 ∷ Reserved 16 ∷ []

-- bytes 48 to 55
abbrev pub what_fields : Event → List Field
what_fields e =
    Number w8 (kind_number e.kind) ∷ Fixed (3 ∷ [])  -- both counts are valid
    ∷ Number w16 e.host ∷ Number w8 e.region ∷ flag e.more ∷ Reserved 2 ∷ []

-- bytes 0 to 55
abbrev pub record_head : Event → List Field
record_head e = Raw 16 record_uuid ∷ header_fields e.handle ++ what_fields e

-- bytes 96 to 127
abbrev pub end_fields : Event → List Field
end_fields e = Reserved 24 ∷ Number w32 e.extents_available ∷ Number w32 e.tags_available ∷ []

abbrev pub record_fields : Event → List Field
record_fields e = record_head e ++ extent_fields e.extent ++ end_fields e

unfoldable pub head_bytes : Event → List ℕ
head_bytes e = spelling (record_head e)

unfoldable pub end_bytes : Event → List ℕ
end_bytes e = spelling (end_fields e)

unfoldable pub record_bytes : Event → List ℕ
record_bytes e = spelling (record_fields e)

-- The bytes are the one spelling of this event.
unfoldable pub WritesRecord : Event → List ℕ → Type 0
WritesRecord e bytes = Writes (record_fields e) bytes

-- The bytes read as this event, whatever their reserved, ignored and fixed bits are.
unfoldable pub ReadsRecord : List ℕ → Event → Type 0
ReadsRecord bytes e = Reads bytes (record_fields e)

-- ---- reading a record

-- why 128 bytes are no record, in this order
abbrev pub record_fault : List ℕ → Option RecordFault
record_fault bytes =
    if not (pointwise ◌==◌ (take 16 bytes) record_uuid) then Some RecordFault.OtherUuid
    else if not (slice_index bytes 16 == 128) then Some (RecordFault.OtherLength (slice_index bytes 16))
    else if nat_lt 5 (slice_index bytes 48) then Some (RecordFault.UnknownKind (slice_index bytes 48))
    else None

-- Each field of the event is what the record's bytes say at its place.
pub record IsEventIn (bytes : List ℕ) (e : Event) : Type 0 where
  pub handle : e.handle ≡ number_at w16 bytes 20
  pub kind : kind_number e.kind ≡ slice_index bytes 48
  pub host : e.host ≡ number_at w16 bytes 50
  pub region : e.region ≡ slice_index bytes 52
  pub more : e.more ≡ (bit_and (slice_index bytes 53) 1 == 1)
  pub start : e.extent.start ≡ number_at w64 bytes 56
  pub length : e.extent.length ≡ number_at w64 bytes 64
  pub tag : e.extent.tag.0 ≡ take 16 (drop 72 bytes)
  pub sequence : e.extent.sequence ≡ number_at w16 bytes 88
  pub extents_available : e.extents_available ≡ number_at w32 bytes 120
  pub tags_available : e.tags_available ≡ number_at w32 bytes 124

-- What decoding the bytes answers: the event that they are, or the first fault.
abbrev pub DecodesRecord : List ℕ → Result Event RecordFault → Type 0
DecodesRecord bytes (Ok event) = (record_fault bytes ≡ None) × IsEventIn bytes event
DecodesRecord bytes (Err fault) = record_fault bytes ≡ Some fault
