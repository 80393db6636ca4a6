-- A page of event records: the payload of the reply to 0100h, as it is read.
use Rattle.std.specs.Prelude.{ℕ, ◌+◌, ◌==◌, List, [], ◌∷◌, length, map, drop, slice_index, Option, Some, None, if◌then◌else◌}
use Rattle.std.specs.Int.{w16, w32, w64}
use Rattle.dcd_base.specs.{Words.◌or◌, Layouts.number_at, Layouts.pieces, Payloads.counted, Payloads.has_flag, Payloads.tag_at}
use Rattle.event_records.specs.{Records.record_fault, declared.events.Event.Event, declared.events.EventKind.EventKind, declared.faults.RecordFault.RecordFault}
use Rattle.host_driver.specs.declared.faults.DriverFault.{DriverFault}

-- the kind of a number up to 5
abbrev pub kind_in : ℕ → EventKind
kind_in n =
    if n == 0 then EventKind.Add
    else if n == 1 then EventKind.Release
    else if n == 2 then EventKind.Forced
    else if n == 3 then EventKind.RegionUpdated
    else if n == 4 then EventKind.AddResponse
    else EventKind.Released

-- the event that the 128 bytes of a record are
unfoldable pub event_in : List ℕ → Event
event_in bytes = record {
  handle = number_at w16 bytes 20;
  kind = kind_in (slice_index bytes 48);
  host = number_at w16 bytes 50;
  region = slice_index bytes 52;
  more = has_flag bytes 53;
  extent = record { start = number_at w64 bytes 56; length = number_at w64 bytes 64; tag = tag_at bytes 72; sequence = number_at w16 bytes 88 };
  extents_available = number_at w32 bytes 120;
  tags_available = number_at w32 bytes 124;
}

-- how many records a page says that it has, and how long it has to be then: 32 bytes and 128 for each
abbrev pub record_count : List ℕ → ℕ
record_count payload = number_at w16 payload 20

abbrev pub records_length : List ℕ → ℕ
records_length payload = counted 32 128 (record_count payload) payload

-- the bytes of each record
abbrev pub record_pieces : List ℕ → List (List ℕ)
record_pieces payload = pieces 128 (record_count payload) (drop 32 payload)

-- the first of them that is no record, with its number
abbrev pub bad_at : ℕ → Option RecordFault → Option DriverFault
bad_at index (Some fault) = Some (DriverFault.BadRecord index fault)
bad_at index None = None

abbrev pub bad_record : ℕ → List (List ℕ) → Option DriverFault
bad_record index [] = None
bad_record index (piece ∷ rest) = bad_at index (record_fault piece) or bad_record (index + 1) rest

-- why a payload is no page
abbrev pub page_fault : List ℕ → Option DriverFault
page_fault payload =
    if length payload == records_length payload then bad_record 0 (record_pieces payload)
    else Some (DriverFault.WrongLength (records_length payload) (length payload))

-- the events of a page without a fault, in order
abbrev pub events_in : List ℕ → List Event
events_in payload = map event_in (record_pieces payload)
