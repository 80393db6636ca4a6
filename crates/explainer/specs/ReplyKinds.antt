-- The payloads of successful replies: a head, items of one length, so many as the head says, and a tail.
use Rattle.std.specs.Prelude.{ℕ, ◌+◌, ◌*◌, ◌==◌, nat_le, Bool, ◌&&◌, List, length, slice_index, Option, Some, None, if◌then◌else◌}
use Rattle.std.specs.Int.{w16, w32}
use Rattle.dcd_base.specs.Layouts.{number_at}
use Rattle.explainer.specs.declared.kinds.ReplyKind.{ReplyKind}

-- the kind of the reply to a command, where its payload has bytes
unfoldable pub kind_of_opcode : ℕ → Option ReplyKind
kind_of_opcode opcode =
    if opcode == 0x0100 then Some ReplyKind.Records
    else if opcode == 0x4800 then Some ReplyKind.Regions
    else if opcode == 0x4801 then Some ReplyKind.Extents
    else if opcode == 0x5600 then Some ReplyKind.Info
    else if opcode == 0x5601 then Some ReplyKind.HostRegions
    else if opcode == 0x5603 then Some ReplyKind.HostExtents
    else if opcode == 0x5608 then Some ReplyKind.Tags
    else None

-- how many bytes the head has
abbrev pub head_length : ReplyKind → ℕ
head_length ReplyKind.Records = 32
head_length ReplyKind.Regions = 8
head_length ReplyKind.Extents = 16
head_length ReplyKind.Info = 24
head_length ReplyKind.HostRegions = 8
head_length ReplyKind.HostExtents = 24
head_length ReplyKind.Tags = 16

-- how many bytes each item has
abbrev pub item_length : ReplyKind → ℕ
item_length ReplyKind.Records = 128
item_length ReplyKind.Regions = 40
item_length ReplyKind.Extents = 40
item_length ReplyKind.Info = 8
item_length ReplyKind.HostRegions = 40
item_length ReplyKind.HostExtents = 40
item_length ReplyKind.Tags = 24

-- how many items the head says that there are
abbrev pub item_count : ReplyKind → List ℕ → ℕ
item_count ReplyKind.Records payload = number_at w16 payload 20
item_count ReplyKind.Regions payload = slice_index payload 1
item_count ReplyKind.Extents payload = number_at w32 payload 0
item_count ReplyKind.Info payload = slice_index payload 1
item_count ReplyKind.HostRegions payload = slice_index payload 3
item_count ReplyKind.HostExtents payload = number_at w32 payload 8
item_count ReplyKind.Tags payload = number_at w32 payload 4

-- how many bytes the tail has: what the host may have, behind regions
abbrev pub tail_length : ReplyKind → ℕ
tail_length ReplyKind.Records = 0
tail_length ReplyKind.Regions = 16
tail_length ReplyKind.Extents = 0
tail_length ReplyKind.Info = 0
tail_length ReplyKind.HostRegions = 16
tail_length ReplyKind.HostExtents = 0
tail_length ReplyKind.Tags = 0

-- how many bytes there are in all
abbrev pub whole_length : ReplyKind → List ℕ → ℕ
whole_length kind payload = head_length kind + item_length kind * item_count kind payload + tail_length kind

-- whether the payload has a head and the length that it says
abbrev pub has_kind : ReplyKind → List ℕ → Bool
has_kind kind payload = nat_le (head_length kind) (length payload) && (length payload == whole_length kind payload)
