-- Parts of replies in words.
use Rattle.std.specs.Prelude.{ℕ, zero, suc, ◌+◌, ◌-◌, ◌*◌, ◌^◌, ◌==◌, min, Bool, List, [], ◌∷◌, ◌++◌, map, slice_index, bit_and, if◌then◌else◌, codes, decimal}
use Rattle.std.specs.{List.flat_map, Int.w16, Int.w32, Int.w64}
use Rattle.dcd_base.specs.{Hosts.has_host, Words.is_zero_tag, declared.capacity.Extent.Extent, declared.capacity.Tag.Tag, Layouts.number_at, Payloads.has_flag, Payloads.tag_at}
use Rattle.script_text.specs.text_lines.specs.{Extents.extent_text, Numbers.size_text, Pairs.pair_text, Pairs.tag_text, Sizes.sizes_text, Words.spaced}

-- a label and a number behind it: a count, an index, a handle
unfoldable pub labelled : List ℕ → ℕ → List ℕ
labelled label n = label ++ decimal n

-- the same of an address, a length or a size
unfoldable pub labelled_size : List ℕ → ℕ → List ℕ
labelled_size label n = label ++ size_text n

-- a label, or nothing
unfoldable pub label_where : Bool → List ℕ → List ℕ
label_where set label = if set then label else []

-- a line of an explanation, below the line that it explains
abbrev pub detail : List ℕ → List ℕ
detail words = codes "    " ++ words ++ 10 ∷ []

-- bytes that have no words
unfoldable pub bytes_words : List ℕ → List ℕ
bytes_words bytes = codes "bytes" ++ flat_map spaced (map pair_text bytes)

-- ---- extents

-- the extent that forty bytes at a place are
unfoldable pub extent_in : List ℕ → ℕ → Extent
extent_in bytes at = record {
  start = number_at w64 bytes at;
  length = number_at w64 bytes (at + 8);
  tag = tag_at bytes (at + 16);
  sequence = number_at w16 bytes (at + 32);
}

unfoldable pub tag_words : Tag → List ℕ
tag_words tag = if is_zero_tag tag then [] else codes " tag " ++ tag_text tag

unfoldable pub sequence_words : ℕ → List ℕ
sequence_words n = if n == 0 then [] else codes " sequence " ++ decimal n

-- an extent with its tag and its place in a shared allocation, where it has them
unfoldable pub extent_words : Extent → List ℕ
extent_words x = codes "extent " ++ extent_text x ++ tag_words x.tag ++ sequence_words x.sequence

-- ---- regions

-- how far the addresses of a region reach, in bytes: so many times 256 MiB
abbrev pub decode_bytes : ℕ → ℕ
decode_bytes units = min units (2 ^ 36 - 1) * 2 ^ 28

unfoldable pub region_ranges : List ℕ → List ℕ
region_ranges bytes =
    labelled_size (codes "region base ") (number_at w64 bytes 0) ++ labelled_size (codes " length ") (number_at w64 bytes 16)
    ++ labelled_size (codes " block ") (number_at w64 bytes 24) ++ labelled_size (codes " decode ") (decode_bytes (number_at w64 bytes 8))

-- bit 0 says that it sanitizes, bit 1 that it is shareable
unfoldable pub region_flags : List ℕ → List ℕ
region_flags bytes =
    labelled (codes " handle ") (number_at w32 bytes 32)
    ++ label_where (has_flag bytes 36) (codes " sanitize") ++ label_where (bit_and (slice_index bytes 36) 2 == 2) (codes " shareable")

-- the forty bytes of a region
abbrev pub region_words : List ℕ → List ℕ
region_words bytes = region_ranges bytes ++ region_flags bytes

-- the sixteen bytes of what a host may have
unfoldable pub counts_words : List ℕ → List ℕ
counts_words bytes =
    labelled (codes "extents at most ") (number_at w32 bytes 0) ++ labelled (codes ", room for ") (number_at w32 bytes 4)
    ++ labelled (codes "; tags at most ") (number_at w32 bytes 8) ++ labelled (codes ", room for ") (number_at w32 bytes 12)

-- the eight bytes of block sizes, bit n for 2^n bytes
unfoldable pub sizes_words : List ℕ → List ℕ
sizes_words bytes = codes "region with block sizes " ++ sizes_text (number_at w64 bytes 0)

-- ---- tags

unfoldable pub host_where : ℕ → ℕ → List ℕ
host_where hosts h = if has_host hosts h then labelled (codes " h") h else []

-- the hosts of these, below a number, that are in a set
unfoldable pub hosts_below : ℕ → ℕ → List ℕ
hosts_below hosts zero = []
hosts_below hosts (suc n) = hosts_below hosts n ++ host_where hosts n

-- a label and the hosts of a set, or nothing for none
unfoldable pub hosts_words : List ℕ → ℕ → List ℕ
hosts_words label hosts = if hosts == 0 then [] else label ++ hosts_below hosts 16

-- the twenty-four bytes of a live tag
unfoldable pub live_tag_words : List ℕ → List ℕ
live_tag_words bytes =
    (codes "tag " ++ tag_text (tag_at bytes 0)) ++ hosts_words (codes ", held by") (number_at w16 bytes 16)
    ++ hosts_words (codes ", offered to") (number_at w16 bytes 18) ++ label_where (has_flag bytes 20) (codes ", referenced")
