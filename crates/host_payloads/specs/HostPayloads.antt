-- What a host asks, and the bytes of the replies.
use Rattle.event_records.specs.Records.{record_fields}
use Rattle.event_records.specs.dcd_base.specs.{EventCommands.clear_fields, EventCommands.clear_length, EventCommands.handles_in, EventCommands.log_fields, Extents.extent_fields, Extents.whole_extent}
use Rattle.event_records.specs.dcd_base.specs.{Payloads.counted, Payloads.has_flag, Payloads.sized, Words.is_zero_tag, Words.zero_tag, Words.flag_of, declared.capacity.Extent.Extent}
use Rattle.event_records.specs.{dcd_base.specs.declared.faults.PayloadFault.PayloadFault, declared.events.Event.Event}
use Rattle.event_records.specs.dcd_base.specs.Layouts.{Reads, Field, flag, spelling, number_at, pieces, u32_bytes, Number, Masked, Fixed, Reserved}
use Rattle.std.specs.{List.list_all, Int.w8, Int.w16, Int.w32, Int.w64, declared.result.Result.Result, declared.result.Result.TheVariants.Ok, declared.result.Result.TheVariants.Err}
use Rattle.std.specs.Prelude.{◌≡◌, IsTrue, true, ◌&&◌, ℕ, ◌+◌, ◌-◌, ◌^◌, ◌<◌, ◌≤◌, ◌*◌, ◌/◌, Bool, not, ◌==◌, List, [], ◌∷◌, ◌++◌, length, map, flat_map, drop, replicate, slice_index, if◌then◌else◌}
use Rattle.host_payloads.specs.declared.{views.Counts.Counts, views.RegionView.RegionView, pages.ExtentsPage.ExtentsPage, requests.HostRequest.HostRequest}

-- an extent without its tag: twenty-four bytes
abbrev pub listed_fields : Extent → List Field
listed_fields x = Number w64 x.start ∷ Number w64 x.length ∷ Reserved 8 ∷ []

-- 4802h and 4803h: a count of extents, the flag More, extents without tags
abbrev pub list_fields : Bool → List Extent → List Field
list_fields more xs = Number w32 (length xs) ∷ flag more ∷ Reserved 3 ∷ flat_map listed_fields xs

-- the opcode of a request's message
abbrev pub host_opcode : HostRequest → ℕ
host_opcode (HostRequest.GetEvents log) = 0x0100
host_opcode (HostRequest.ClearEvents log all handles) = 0x0101
host_opcode (HostRequest.GetConfiguration count first) = 0x4800
host_opcode (HostRequest.GetExtents count first) = 0x4801
host_opcode (HostRequest.AddResponse more xs) = 0x4802
host_opcode (HostRequest.GiveBack more xs) = 0x4803

-- the layout of a request's payload
abbrev pub host_fields : HostRequest → List Field
host_fields (HostRequest.GetEvents log) = log_fields log
host_fields (HostRequest.ClearEvents log all handles) = clear_fields log all handles
host_fields (HostRequest.GetConfiguration count first) = Number w8 count ∷ Number w8 first ∷ []
host_fields (HostRequest.GetExtents count first) = Number w32 count ∷ Number w32 first ∷ []
host_fields (HostRequest.AddResponse more xs) = list_fields more xs
host_fields (HostRequest.GiveBack more xs) = list_fields more xs

-- a listed extent has no tag and no sequence
abbrev pub is_untagged : Extent → Bool
is_untagged x = is_zero_tag x.tag && (x.sequence == 0)

-- whether the extents that the request lists are such
abbrev pub lists_untagged : HostRequest → Bool
lists_untagged (HostRequest.AddResponse more xs) = list_all is_untagged xs
lists_untagged (HostRequest.GiveBack more xs) = list_all is_untagged xs
lists_untagged q = true

-- The payload reads as the request.
pub record ReadsHost (payload : List ℕ) (q : HostRequest) : Type 0 where
  pub untagged : IsTrue (lists_untagged q)
  pub reads : Reads payload (host_fields q)

-- ---- the request that a payload is

-- the extent that 24 bytes list
abbrev pub listed_extent : List ℕ → Extent
listed_extent bytes = record { start = number_at w64 bytes 0; length = number_at w64 bytes 8; tag = zero_tag; sequence = 0 }

-- the extents behind a count and a flag
abbrev pub listed_extents : List ℕ → List Extent
listed_extents payload = map listed_extent (pieces 24 ((length payload - 8) / 24) (drop 8 payload))

-- how long the payload of a 4802h or 4803h has to be
abbrev pub list_length : List ℕ → ℕ
list_length payload = counted 8 24 (number_at w32 payload 0) payload

-- 0100h: a log
unfoldable pub events_asked : List ℕ → Result HostRequest PayloadFault
events_asked payload = sized 1 payload (HostRequest.GetEvents (slice_index payload 0))

-- 0101h: a log, a flag, a count, three reserved bytes, handles
unfoldable pub clear_asked : List ℕ → Result HostRequest PayloadFault
clear_asked payload = sized (clear_length payload) payload (HostRequest.ClearEvents (slice_index payload 0) (has_flag payload 1) (handles_in payload))

-- 4800h: a count, the first
unfoldable pub configuration_asked : List ℕ → Result HostRequest PayloadFault
configuration_asked payload = sized 2 payload (HostRequest.GetConfiguration (slice_index payload 0) (slice_index payload 1))

-- 4801h: a count, the first
unfoldable pub extents_asked : List ℕ → Result HostRequest PayloadFault
extents_asked payload = sized 8 payload (HostRequest.GetExtents (number_at w32 payload 0) (number_at w32 payload 4))

-- 4802h and 4803h: a count, a flag, three reserved bytes, extents
unfoldable pub listed_in : List ℕ → Result (Bool × List Extent) PayloadFault
listed_in payload = sized (list_length payload) payload (has_flag payload 4, listed_extents payload)

-- the request that is made of a flag and a list
abbrev pub of_list : (Bool → List Extent → HostRequest) → Result (Bool × List Extent) PayloadFault → Result HostRequest PayloadFault
of_list make (Ok x) = Ok (make x.0 x.1)
of_list make (Err fault) = Err fault

-- the request that a payload is under an opcode, or why it is none
unfoldable pub host_request : ℕ → List ℕ → Result HostRequest PayloadFault
host_request opcode payload =
    if opcode == 0x0100 then events_asked payload
    else if opcode == 0x0101 then clear_asked payload
    else if opcode == 0x4800 then configuration_asked payload
    else if opcode == 0x4801 then extents_asked payload
    else if opcode == 0x4802 then of_list (λ more xs. HostRequest.AddResponse more xs) (listed_in payload)
    else if opcode == 0x4803 then of_list (λ more xs. HostRequest.GiveBack more xs) (listed_in payload)
    else Err (PayloadFault.UnknownOpcode opcode)

-- The payload reads as the request, whose opcode this is.
abbrev pub IsHostRequest : ℕ → List ℕ → HostRequest → Type 0
IsHostRequest opcode payload q = (opcode ≡ host_opcode q) × ReadsHost payload q

-- ---- requests as they are written

-- a listed extent as it is written
unfoldable pub listed_bytes : Extent → List ℕ
listed_bytes x = spelling (listed_fields x)

-- what stands before the extents of a list
unfoldable pub list_head : ℕ → Bool → List ℕ
list_head count more = u32_bytes count ++ flag_of more ∷ replicate 3 0

-- Start and length have eight bytes each.
abbrev pub FitsListed : Extent → Type 0
FitsListed x = (x.start < 2 ^ 64) × (x.length < 2 ^ 64)

-- The counts of the request's lists can be written: at most 255 handles, at most 65,535 extents.
abbrev pub HostCountsFit : HostRequest → Type 0
HostCountsFit (HostRequest.ClearEvents log all handles) = length handles ≤ 255
HostCountsFit (HostRequest.AddResponse more xs) = length xs ≤ 65535
HostCountsFit (HostRequest.GiveBack more xs) = length xs ≤ 65535
HostCountsFit q = Unit {0}

-- ---- replies

-- what stands before the records of 0100h: flags, missed records, times of the first and last of them, a count
abbrev pub events_head_fields : ℕ → Bool → ℕ → List Field
events_head_fields missed more count =
    Masked 3 (flag_of (not (missed == 0)) + 2 * flag_of more) ∷ Reserved 1 ∷ Number w16 missed ∷ Fixed (replicate 8 0) ∷ Fixed (replicate 8 0)
    ∷ Number w16 count ∷ Reserved 10 ∷ []

-- the bytes of that
unfoldable pub events_head : ℕ → Bool → ℕ → List ℕ
events_head missed more count = spelling (events_head_fields missed more count)

-- 0100h: that, and the records
abbrev pub events_fields : ℕ → Bool → List Event → List Field
events_fields missed more events = events_head_fields missed more (length events) ++ flat_map record_fields events

-- the payload of the reply to 0100h
unfoldable pub events_payload : ℕ → Bool → List Event → List ℕ
events_payload missed more events = spelling (events_fields missed more events)

-- one region: forty bytes
abbrev pub view_fields : RegionView → List Field
view_fields v =
    Number w64 v.base ∷ Number w64 v.decode_units ∷ Number w64 v.length ∷ Number w64 v.block ∷ Number w32 v.handle
    ∷ Number w8 v.flags ∷ Reserved 3 ∷ []

-- a region as it is written
unfoldable pub region_bytes : RegionView → List ℕ
region_bytes v = spelling (view_fields v)

-- extents and tags supported and available
abbrev pub counts_fields : Counts → List Field
counts_fields n = Number w32 n.extents ∷ Number w32 n.extents_available ∷ Number w32 n.tags ∷ Number w32 n.tags_available ∷ []

-- the counts as they are written
unfoldable pub counts_bytes : Counts → List ℕ
counts_bytes n = spelling (counts_fields n)

-- what stands before the regions of 4800h: how many the device has, how many follow
abbrev pub configuration_head_fields : ℕ → ℕ → List Field
configuration_head_fields total returned = Number w8 total ∷ Number w8 returned ∷ Reserved 6 ∷ []

-- the bytes of that
unfoldable pub configuration_head : ℕ → ℕ → List ℕ
configuration_head total returned = spelling (configuration_head_fields total returned)

-- 4800h: that, the regions, the counts
abbrev pub configuration_fields : ℕ → List RegionView → Counts → List Field
configuration_fields total views counts = configuration_head_fields total (length views) ++ flat_map view_fields views ++ counts_fields counts

-- the payload of the reply to 4800h
unfoldable pub configuration_payload : ℕ → List RegionView → Counts → List ℕ
configuration_payload total views counts = spelling (configuration_fields total views counts)

-- a page: how many extents follow, how many there are, the generation, the extents
abbrev pub page_fields : ℕ → ℕ → List Extent → List Field
page_fields total generation xs =
    Number w32 (length xs) ∷ Number w32 total ∷ Number w32 generation ∷ Reserved 4 ∷ flat_map extent_fields xs

-- the payload of the reply to 4801h
unfoldable pub extents_payload : ℕ → ℕ → List Extent → List ℕ
extents_payload total generation xs = spelling (page_fields total generation xs)

-- what stands before the extents of a page
unfoldable pub page_head : ℕ → ℕ → ℕ → List ℕ
page_head returned total generation = u32_bytes returned ++ u32_bytes total ++ u32_bytes generation ++ replicate 4 0

-- how long the payload of a page has to be
abbrev pub page_length : List ℕ → ℕ
page_length payload = counted 16 40 (number_at w32 payload 0) payload

-- the extents of a page
abbrev pub extents_in_page : List ℕ → List Extent
extents_in_page payload = map whole_extent (pieces 40 ((length payload - 16) / 40) (drop 16 payload))

-- the page of these extents
abbrev pub page_of : ℕ → ℕ → List Extent → ExtentsPage
page_of total generation extents = record { total = total; generation = generation; extents = extents }

-- the page that a payload is
unfoldable pub page_in : List ℕ → Result ExtentsPage PayloadFault
page_in payload = sized (page_length payload) payload (record { total = number_at w32 payload 4; generation = number_at w32 payload 8; extents = extents_in_page payload })

-- The payload reads as the page.
abbrev pub IsPage : List ℕ → ExtentsPage → Type 0
IsPage payload page = Reads payload (page_fields page.total page.generation page.extents)
