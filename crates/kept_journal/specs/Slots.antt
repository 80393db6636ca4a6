-- The numbers of a token, each in its slot.
use Rattle.std.specs.Prelude.{ℕ, ◌%◌, ◌^◌, ◌≡◌, ◌==◌, ◌++◌, Bool, List, if◌then◌else◌, nat_lt, slice_index, slice_set}
use Rattle.std.specs.Int.{w64, from_le_bytes, to_le_bytes}
use Rattle.dcd_base.specs.{Words.flag_of, declared.capacity.Extent.Extent, declared.capacity.Tag.Tag, declared.media.Run.Run, declared.steps.LogId.LogId, Layouts.number_at}
use Rattle.event_records.specs.{Records.kind_number, declared.events.Event.Event, declared.events.EventKind.EventKind}
use Rattle.journal_core.specs.declared.outcome.HeldKind.{HeldKind}
use Rattle.kept_journal.specs.declared.slots.TheConstants.{COUNT, EVENT_HOST, EVENT_KIND, EXTENTS_LEFT, FIRST, FLAG, HANDLE, HOST, LENGTH, LOG, REGION, SEQUENCE, START, TAGS_LEFT, TAG_HIGH, TAG_LOW}

-- before anything is told all are 0
abbrev pub no_slots : ℕ → ℕ
no_slots k = 0

-- the numbers of an array by their slots
abbrev pub slots_in : List ℕ → ℕ → ℕ
slots_in numbers k = slice_index numbers k

-- the numbers, with another one in a slot
abbrev pub with_slot : (ℕ → ℕ) → ℕ → ℕ → ℕ → ℕ
with_slot slots k n i = if i == k then n else slots i

-- a number, with another byte at a place of its eight, the lowest first
abbrev pub with_byte : ℕ → ℕ → ℕ → ℕ
with_byte n place byte = from_le_bytes w64 (slice_set (to_le_bytes w64 n) place byte)

-- ---- what stands in the slots

-- a host has at most 8 bits
abbrev pub slotted_host : (ℕ → ℕ) → ℕ
slotted_host slots = slots HOST % 256

-- a run of granules
abbrev pub slotted_run : (ℕ → ℕ) → Run
slotted_run slots = record { first = slots FIRST % 2 ^ 32; count = slots COUNT % 2 ^ 32 }

-- a number past those of hosts is the manager's
abbrev pub slotted_log : (ℕ → ℕ) → LogId
slotted_log slots = if nat_lt (slots LOG) 256 then LogId.Host (slots LOG) else LogId.Manager

-- which of the two lists is held
abbrev pub slotted_held : (ℕ → ℕ) → HeldKind
slotted_held slots = if slots FLAG == 0 then HeldKind.Responses else HeldKind.Releases

-- a flag
abbrev pub slotted_flag : (ℕ → ℕ) → Bool
slotted_flag slots = slots FLAG == 1

-- a tag, in two halves
abbrev pub slotted_tag : (ℕ → ℕ) → Tag
slotted_tag slots = record { 0 = to_le_bytes w64 (slots TAG_LOW) ++ to_le_bytes w64 (slots TAG_HIGH) }

-- an extent, whose sequence has 16 bits
abbrev pub slotted_extent : (ℕ → ℕ) → Extent
slotted_extent slots = record { start = slots START; length = slots LENGTH; tag = slotted_tag slots; sequence = slots SEQUENCE % 2 ^ 16 }

-- what a record tells, by its number
abbrev pub slotted_kind : (ℕ → ℕ) → EventKind
slotted_kind slots =
    if slots EVENT_KIND == 0 then EventKind.Add
    else if slots EVENT_KIND == 1 then EventKind.Release
    else if slots EVENT_KIND == 2 then EventKind.Forced
    else if slots EVENT_KIND == 3 then EventKind.RegionUpdated
    else if slots EVENT_KIND == 4 then EventKind.AddResponse
    else EventKind.Released

-- a record
abbrev pub slotted_event : (ℕ → ℕ) → Event
slotted_event slots = record {
  handle = slots HANDLE % 2 ^ 16;
  kind = slotted_kind slots;
  host = slots EVENT_HOST % 2 ^ 16;
  region = slots REGION % 256;
  more = slotted_flag slots;
  extent = slotted_extent slots;
  extents_available = slots EXTENTS_LEFT % 2 ^ 32;
  tags_available = slots TAGS_LEFT % 2 ^ 32;
}

-- ---- what is put into the slots

-- a host
abbrev pub telling_host : (ℕ → ℕ) → ℕ → ℕ → ℕ
telling_host slots h = with_slot slots HOST h

-- a run
abbrev pub telling_run : (ℕ → ℕ) → Run → ℕ → ℕ
telling_run slots run = with_slot (with_slot slots FIRST run.first) COUNT run.count

-- the number of a log: that of its host, or one past those of hosts
abbrev pub number_of_log : LogId → ℕ
number_of_log (LogId.Host h) = h
number_of_log LogId.Manager = 256

-- a log
abbrev pub telling_log : (ℕ → ℕ) → LogId → ℕ → ℕ
telling_log slots log = with_slot slots LOG (number_of_log log)

-- the number of a held list
abbrev pub number_of_held : HeldKind → ℕ
number_of_held HeldKind.Responses = 0
number_of_held HeldKind.Releases = 1

-- a held list
abbrev pub telling_held : (ℕ → ℕ) → HeldKind → ℕ → ℕ
telling_held slots kind = with_slot slots FLAG (number_of_held kind)

-- a flag
abbrev pub telling_flag : (ℕ → ℕ) → Bool → ℕ → ℕ
telling_flag slots flag = with_slot slots FLAG (flag_of flag)

-- a tag
abbrev pub telling_tag : (ℕ → ℕ) → Tag → ℕ → ℕ
telling_tag slots t = with_slot (with_slot slots TAG_LOW (number_at w64 t.0 0)) TAG_HIGH (number_at w64 t.0 8)

-- an extent
abbrev pub telling_extent : (ℕ → ℕ) → Extent → ℕ → ℕ
telling_extent slots x =
    with_slot (telling_tag (with_slot (with_slot slots START x.start) LENGTH x.length) x.tag) SEQUENCE x.sequence

-- a record without its extent and its counts
abbrev pub telling_what : (ℕ → ℕ) → Event → ℕ → ℕ
telling_what slots e =
    telling_flag (with_slot (with_slot (with_slot (with_slot slots HANDLE e.handle) EVENT_KIND (kind_number e.kind)) EVENT_HOST e.host) REGION e.region) e.more

-- a record
abbrev pub telling_event : (ℕ → ℕ) → Event → ℕ → ℕ
telling_event slots e =
    with_slot (with_slot (telling_extent (telling_what slots e) e.extent) EXTENTS_LEFT e.extents_available) TAGS_LEFT e.tags_available

-- What stands in the slots of an event without its extent and its counts is of the size that its fields have.
pub record FitsWhat (e : Event) : Type 0 where
  pub handle : e.handle % 2 ^ 16 ≡ e.handle
  pub host : e.host % 2 ^ 16 ≡ e.host
  pub region : e.region % 256 ≡ e.region
