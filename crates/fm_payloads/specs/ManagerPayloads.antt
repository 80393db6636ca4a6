-- What the manager asks, and the bytes of the replies.
use Rattle.dcd_base.specs.Layouts.{spelling, Field, Reads, flag, number_at, pieces, Number, Raw, Reserved}
use Rattle.dcd_base.specs.{EventCommands.log_fields, EventCommands.clear_fields, EventCommands.clear_length, EventCommands.handles_in, Extents.whole_extent, Extents.extent_fields}
use Rattle.dcd_base.specs.{Payloads.counted, Payloads.has_flag, Payloads.sized, Payloads.tag_at, declared.capacity.Extent.Extent, declared.capacity.Tag.Tag, declared.faults.PayloadFault.PayloadFault}
use Rattle.dcd_base.specs.declared.tags.TagView.{TagView}
use Rattle.std.specs.Prelude.{◌≡◌, ◌≤◌, ℕ, ◌-◌, ◌/◌, ◌==◌, List, [], ◌∷◌, ◌++◌, length, map, flat_map, drop, slice_index, if◌then◌else◌}
use Rattle.std.specs.{Int.w8, Int.w16, Int.w32, Int.w64, declared.result.Result.Result, declared.result.Result.TheVariants.Ok, declared.result.Result.TheVariants.Err}
use Rattle.fm_payloads.specs.declared.{placing.Placed.Placed, requests.FmRequest.FmRequest}

-- 5604h and 5605h: a host, a policy or flags, a region, a length in bytes, a tag, a count of extents, extents
abbrev pub placed_fields : ℕ → ℕ → ℕ → ℕ → Tag → List Extent → List Field
placed_fields host choice region bytes tag xs =
    Number w16 host ∷ Number w8 choice ∷ Number w8 region ∷ Number w64 bytes ∷ Raw 16 tag.0
    ∷ Number w32 (length xs) ∷ flat_map extent_fields xs

-- the opcode of a request's message
abbrev pub manager_opcode : FmRequest → ℕ
manager_opcode (FmRequest.GetEvents log) = 0x0100
manager_opcode (FmRequest.ClearEvents log all handles) = 0x0101
manager_opcode FmRequest.GetInfo = 0x5600
manager_opcode (FmRequest.GetRegions host count first) = 0x5601
manager_opcode (FmRequest.SetRegion region sanitize block) = 0x5602
manager_opcode (FmRequest.GetExtentLists host count first) = 0x5603
manager_opcode (FmRequest.Add host policy region bytes tag xs) = 0x5604
manager_opcode (FmRequest.Remove host flags region bytes tag xs) = 0x5605
manager_opcode (FmRequest.AddReference tag) = 0x5606
manager_opcode (FmRequest.RemoveReference tag) = 0x5607
manager_opcode (FmRequest.ListTags first count) = 0x5608

-- the layout of a request's payload
abbrev pub manager_fields : FmRequest → List Field
manager_fields (FmRequest.GetEvents log) = log_fields log
manager_fields (FmRequest.ClearEvents log all handles) = clear_fields log all handles
manager_fields FmRequest.GetInfo = []
manager_fields (FmRequest.GetRegions host count first) = Number w16 host ∷ Number w8 count ∷ Number w8 first ∷ []
manager_fields (FmRequest.SetRegion region sanitize block) = Number w8 region ∷ Reserved 3 ∷ Number w64 block ∷ flag sanitize ∷ Reserved 3 ∷ []
manager_fields (FmRequest.GetExtentLists host count first) = Number w16 host ∷ Reserved 2 ∷ Number w32 count ∷ Number w32 first ∷ []
manager_fields (FmRequest.Add host policy region bytes tag xs) = placed_fields host policy region bytes tag xs
manager_fields (FmRequest.Remove host flags region bytes tag xs) = placed_fields host flags region bytes tag xs
manager_fields (FmRequest.AddReference tag) = Raw 16 tag.0 ∷ []
manager_fields (FmRequest.RemoveReference tag) = Raw 16 tag.0 ∷ []
manager_fields (FmRequest.ListTags first count) = Number w32 first ∷ Number w32 count ∷ []

-- ---- the request that a payload is

-- the extents of a payload that places them
abbrev pub whole_extents : List ℕ → List Extent
whole_extents payload = map whole_extent (pieces 40 ((length payload - 32) / 40) (drop 32 payload))

-- how long such a payload has to be
abbrev pub placed_length : List ℕ → ℕ
placed_length payload = counted 32 40 (number_at w32 payload 28) payload

-- 0100h: a log
unfoldable pub manager_events_asked : List ℕ → Result FmRequest PayloadFault
manager_events_asked payload = sized 1 payload (FmRequest.GetEvents (slice_index payload 0))

-- 0101h: a log, a flag, a count, three reserved bytes, handles
unfoldable pub manager_clear_asked : List ℕ → Result FmRequest PayloadFault
manager_clear_asked payload = sized (clear_length payload) payload (FmRequest.ClearEvents (slice_index payload 0) (has_flag payload 1) (handles_in payload))

-- 5600h: nothing
unfoldable pub info_asked : List ℕ → Result FmRequest PayloadFault
info_asked payload = sized 0 payload FmRequest.GetInfo

-- 5601h: a host, a count, the first
unfoldable pub regions_asked : List ℕ → Result FmRequest PayloadFault
regions_asked payload = sized 4 payload (FmRequest.GetRegions (number_at w16 payload 0) (slice_index payload 2) (slice_index payload 3))

-- 5602h: a region, three reserved bytes, a block size, a flag, three reserved bytes
unfoldable pub setting_asked : List ℕ → Result FmRequest PayloadFault
setting_asked payload = sized 16 payload (FmRequest.SetRegion (slice_index payload 0) (has_flag payload 12) (number_at w64 payload 4))

-- 5603h: a host, two reserved bytes, a count, the first
unfoldable pub lists_asked : List ℕ → Result FmRequest PayloadFault
lists_asked payload = sized 12 payload (FmRequest.GetExtentLists (number_at w16 payload 0) (number_at w32 payload 4) (number_at w32 payload 8))

-- 5604h and 5605h: a host, a policy or flags, a region, a length, a tag, a count, extents
unfoldable pub placed_in : List ℕ → Result Placed PayloadFault
placed_in payload =
    sized (placed_length payload) payload (record { host = number_at w16 payload 0; choice = slice_index payload 2; region = slice_index payload 3; length = number_at w64 payload 4; tag = tag_at payload 12; extents = whole_extents payload })

-- 5606h and 5607h: a tag
unfoldable pub tag_in : List ℕ → Result Tag PayloadFault
tag_in payload = sized 16 payload (tag_at payload 0)

-- 5608h: the first, a count
unfoldable pub tags_asked : List ℕ → Result FmRequest PayloadFault
tags_asked payload = sized 8 payload (FmRequest.ListTags (number_at w32 payload 0) (number_at w32 payload 4))

-- the request that is made of what was read
abbrev pub made_of : {X : Type 0} → (X → FmRequest) → Result X PayloadFault → Result FmRequest PayloadFault
made_of make (Ok x) = Ok (make x)
made_of make (Err fault) = Err fault

-- an add of what was read
abbrev pub to_add : Placed → FmRequest
to_add p = FmRequest.Add p.host p.choice p.region p.length p.tag p.extents

-- a release of what was read
abbrev pub to_remove : Placed → FmRequest
to_remove p = FmRequest.Remove p.host p.choice p.region p.length p.tag p.extents

-- the request that a payload is under an opcode, or why it is none
unfoldable pub manager_request : ℕ → List ℕ → Result FmRequest PayloadFault
manager_request opcode payload =
    if opcode == 0x0100 then manager_events_asked payload
    else if opcode == 0x0101 then manager_clear_asked payload
    else if opcode == 0x5600 then info_asked payload
    else if opcode == 0x5601 then regions_asked payload
    else if opcode == 0x5602 then setting_asked payload
    else if opcode == 0x5603 then lists_asked payload
    else if opcode == 0x5604 then made_of to_add (placed_in payload)
    else if opcode == 0x5605 then made_of to_remove (placed_in payload)
    else if opcode == 0x5606 then made_of (λ t. FmRequest.AddReference t) (tag_in payload)
    else if opcode == 0x5607 then made_of (λ t. FmRequest.RemoveReference t) (tag_in payload)
    else if opcode == 0x5608 then tags_asked payload
    else Err (PayloadFault.UnknownOpcode opcode)

-- The payload reads as the request, whose opcode this is.
abbrev pub IsManagerRequest : ℕ → List ℕ → FmRequest → Type 0
IsManagerRequest opcode payload q = (opcode ≡ manager_opcode q) × Reads payload (manager_fields q)

-- ---- requests as they are written

-- The counts of the request's lists can be written: at most 255 handles, at most 65,535 extents.
abbrev pub ManagerCountsFit : FmRequest → Type 0
ManagerCountsFit (FmRequest.ClearEvents log all handles) = length handles ≤ 255
ManagerCountsFit (FmRequest.Add host policy region bytes tag xs) = length xs ≤ 65535
ManagerCountsFit (FmRequest.Remove host flags region bytes tag xs) = length xs ≤ 65535
ManagerCountsFit q = Unit {0}

-- what stands before the extents of a payload that places them
abbrev pub placed_head_fields : ℕ → ℕ → ℕ → ℕ → Tag → ℕ → List Field
placed_head_fields host choice region bytes tag count =
    Number w16 host ∷ Number w8 choice ∷ Number w8 region ∷ Number w64 bytes ∷ Raw 16 tag.0 ∷ Number w32 count ∷ []

-- the bytes of that
unfoldable pub placed_head : ℕ → ℕ → ℕ → ℕ → Tag → ℕ → List ℕ
placed_head host choice region bytes tag count = spelling (placed_head_fields host choice region bytes tag count)

-- ---- replies

-- hosts, regions, policies of adds and of releases, granules
abbrev pub info_head_fields : ℕ → ℕ → ℕ → ℕ → ℕ → List Field
info_head_fields hosts regions granules free dirty =
    Number w8 hosts ∷ Number w8 regions ∷ Number w16 0x000F ∷ Number w16 0x0003 ∷ Reserved 2
    ∷ Number w32 granules ∷ Number w32 free ∷ Number w32 dirty ∷ Reserved 4 ∷ []

-- the bytes of that
unfoldable pub info_head : ℕ → ℕ → ℕ → ℕ → ℕ → List ℕ
info_head hosts regions granules free dirty = spelling (info_head_fields hosts regions granules free dirty)

-- 5600h: that, and the supported block sizes of each region
abbrev pub info_fields : ℕ → ℕ → ℕ → ℕ → List ℕ → List Field
info_fields hosts granules free dirty sizes = info_head_fields hosts (length sizes) granules free dirty ++ map (Number w64) sizes

-- the payload of the reply to 5600h
unfoldable pub info_payload : ℕ → ℕ → ℕ → ℕ → List ℕ → List ℕ
info_payload hosts granules free dirty sizes = spelling (info_fields hosts granules free dirty sizes)

-- what stands before the regions of a 5601h
abbrev pub regions_head_fields : ℕ → ℕ → ℕ → List Field
regions_head_fields host total returned = Number w16 host ∷ Number w8 total ∷ Number w8 returned ∷ Reserved 4 ∷ []

-- the bytes of that
unfoldable pub regions_head : ℕ → ℕ → ℕ → List ℕ
regions_head host total returned = spelling (regions_head_fields host total returned)

-- what stands before the extents of a 5603h
abbrev pub lists_head_fields : ℕ → ℕ → ℕ → ℕ → ℕ → List Field
lists_head_fields host first returned total generation =
    Number w16 host ∷ Reserved 2 ∷ Number w32 first ∷ Number w32 returned ∷ Number w32 total ∷ Number w32 generation ∷ Reserved 4 ∷ []

-- the bytes of that
unfoldable pub lists_head : ℕ → ℕ → ℕ → ℕ → ℕ → List ℕ
lists_head host first returned total generation = spelling (lists_head_fields host first returned total generation)

-- one live tag: twenty-four bytes
abbrev pub tag_fields : TagView → List Field
tag_fields v = Raw 16 v.tag.0 ∷ Number w16 v.holders ∷ Number w16 v.offered ∷ flag v.referenced ∷ Reserved 3 ∷ []

-- a tag's view as it is written
unfoldable pub tag_bytes : TagView → List ℕ
tag_bytes v = spelling (tag_fields v)

-- what stands before the tags of a 5608h: the first index, how many follow, how many there are
abbrev pub tags_head_fields : ℕ → ℕ → ℕ → List Field
tags_head_fields first returned total = Number w32 first ∷ Number w32 returned ∷ Number w32 total ∷ Reserved 4 ∷ []

-- the bytes of that
unfoldable pub tags_head : ℕ → ℕ → ℕ → List ℕ
tags_head first returned total = spelling (tags_head_fields first returned total)

-- 5608h: that, and the tags
abbrev pub tags_fields : ℕ → ℕ → List TagView → List Field
tags_fields first total views = tags_head_fields first (length views) total ++ flat_map tag_fields views

-- the payload of the reply to 5608h
unfoldable pub tags_payload : ℕ → ℕ → List TagView → List ℕ
tags_payload first total views = spelling (tags_fields first total views)
