-- Replies in words.
use Rattle.std.specs.Prelude.{ℕ, ◌*◌, ◌==◌, List, [], ◌∷◌, ◌++◌, drop, slice_index, bit_and, Option, Some, None, if◌then◌else◌, codes}
use Rattle.std.specs.{List.flat_map, Int.w16, Int.w32}
use Rattle.dcd_base.specs.Layouts.{number_at, pieces}
use Rattle.script_text.specs.text_lines.specs.Numbers.{hexadecimal}
use Rattle.explainer.specs.{CodeWords.return_code_words, RecordWords.record_words}
use Rattle.explainer.specs.{ReplyKinds.has_kind, ReplyKinds.head_length, ReplyKinds.item_count, ReplyKinds.item_length, ReplyKinds.kind_of_opcode, declared.kinds.ReplyKind.ReplyKind}
use Rattle.explainer.specs.PartWords.{bytes_words, counts_words, detail, extent_in, extent_words, label_where, labelled, live_tag_words, region_words, sizes_words}

-- ---- heads

-- 0100h: how many records follow, how many were missed, and whether the log has more
unfoldable pub records_heading : List ℕ → List ℕ
records_heading head =
    labelled (codes "records ") (number_at w16 head 20) ++ labelled (codes ", missed ") (number_at w16 head 2)
    ++ label_where (bit_and (slice_index head 0) 2 == 2) (codes ", more in the log")

-- 4800h: how many regions follow, and how many there are
unfoldable pub regions_heading : List ℕ → List ℕ
regions_heading head = labelled (codes "regions ") (slice_index head 1) ++ labelled (codes " of ") (slice_index head 0)

-- 4801h: how many extents follow, how many are accepted, and how often that list changed
unfoldable pub extents_heading : List ℕ → List ℕ
extents_heading head =
    labelled (codes "extents ") (number_at w32 head 0) ++ labelled (codes " of ") (number_at w32 head 4) ++ labelled (codes ", generation ") (number_at w32 head 8)

-- 5600h: hosts, regions and granules
unfoldable pub granules_heading : List ℕ → List ℕ
granules_heading head =
    labelled (codes ", granules ") (number_at w32 head 8) ++ labelled (codes ", free ") (number_at w32 head 12) ++ labelled (codes ", dirty ") (number_at w32 head 16)

unfoldable pub info_heading : List ℕ → List ℕ
info_heading head =
    labelled (codes "hosts ") (slice_index head 0) ++ labelled (codes ", regions ") (slice_index head 1) ++ granules_heading head

-- 5601h: the same as 4800h of a host
unfoldable pub host_regions_heading : List ℕ → List ℕ
host_regions_heading head =
    labelled (codes "host ") (number_at w16 head 0) ++ labelled (codes ", regions ") (slice_index head 3) ++ labelled (codes " of ") (slice_index head 2)

-- 5603h: the same as 4801h of a host, from an index on
unfoldable pub host_extents_heading : List ℕ → List ℕ
host_extents_heading head =
    labelled (codes "host ") (number_at w16 head 0) ++ labelled (codes ", extents ") (number_at w32 head 8) ++ labelled (codes " of ") (number_at w32 head 12)
    ++ labelled (codes " from index ") (number_at w32 head 4) ++ labelled (codes ", generation ") (number_at w32 head 16)

-- 5608h: how many tags follow, and how many live
unfoldable pub tags_heading : List ℕ → List ℕ
tags_heading head =
    labelled (codes "tags ") (number_at w32 head 4) ++ labelled (codes " of ") (number_at w32 head 8) ++ labelled (codes " from index ") (number_at w32 head 0)

abbrev pub heading : ReplyKind → List ℕ → List ℕ
heading ReplyKind.Records head = records_heading head
heading ReplyKind.Regions head = regions_heading head
heading ReplyKind.Extents head = extents_heading head
heading ReplyKind.Info head = info_heading head
heading ReplyKind.HostRegions head = host_regions_heading head
heading ReplyKind.HostExtents head = host_extents_heading head
heading ReplyKind.Tags head = tags_heading head

-- ---- items and tails

abbrev pub item_words : ReplyKind → List ℕ → List ℕ
item_words ReplyKind.Records item = record_words item
item_words ReplyKind.Regions item = region_words item
item_words ReplyKind.Extents item = extent_words (extent_in item 0)
item_words ReplyKind.Info item = sizes_words item
item_words ReplyKind.HostRegions item = region_words item
item_words ReplyKind.HostExtents item = extent_words (extent_in item 0)
item_words ReplyKind.Tags item = live_tag_words item

unfoldable pub item_line : ReplyKind → List ℕ → List ℕ
item_line kind item = detail (item_words kind item)

-- items of one kind, a line for each
unfoldable pub item_lines : ReplyKind → ℕ → List ℕ → List ℕ
item_lines kind count items = flat_map (item_line kind) (pieces (item_length kind) count items)

-- behind regions comes what the host may have
abbrev pub tail_lines : ReplyKind → List ℕ → List ℕ
tail_lines ReplyKind.Records tail = []
tail_lines ReplyKind.Regions tail = detail (counts_words tail)
tail_lines ReplyKind.Extents tail = []
tail_lines ReplyKind.Info tail = []
tail_lines ReplyKind.HostRegions tail = detail (counts_words tail)
tail_lines ReplyKind.HostExtents tail = []
tail_lines ReplyKind.Tags tail = []

-- ---- payloads

-- what stands behind the head
abbrev pub body_lines : ReplyKind → ℕ → List ℕ → List ℕ
body_lines kind count body = item_lines kind count body ++ tail_lines kind (drop (item_length kind * count) body)

-- the lines of a payload of this kind
unfoldable pub kind_lines : ReplyKind → List ℕ → List ℕ
kind_lines kind payload = detail (heading kind payload) ++ body_lines kind (item_count kind payload) (drop (head_length kind) payload)

-- the line of a payload that has no words
abbrev pub plain_lines : List ℕ → List ℕ
plain_lines [] = []
plain_lines (byte ∷ bytes) = detail (bytes_words (byte ∷ bytes))

-- a payload of this kind; one that does not read so is shown as it is
abbrev pub payload_lines : Option ReplyKind → List ℕ → List ℕ
payload_lines None payload = plain_lines payload
payload_lines (Some kind) payload = if has_kind kind payload then kind_lines kind payload else plain_lines payload

-- only a reply with the code Success has fields
abbrev pub kind_answered : ℕ → ℕ → Option ReplyKind
kind_answered opcode code = if code == 0 then kind_of_opcode opcode else None

-- the lines of an answer: its return code, and what its payload says
unfoldable pub answer_lines : ℕ → ℕ → List ℕ → List ℕ
answer_lines opcode code payload = detail (return_code_words code) ++ payload_lines (kind_answered opcode code) payload
