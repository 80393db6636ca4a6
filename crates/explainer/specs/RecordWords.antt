-- Event records in words.
use Rattle.std.specs.Prelude.{ℕ, ◌==◌, Bool, true, false, List, ◌++◌, slice_index, if◌then◌else◌, codes}
use Rattle.std.specs.{Option.is_none, Int.w16, Int.w32}
use Rattle.event_records.specs.{Records.kind_number, Records.record_fault, declared.events.EventKind.EventKind}
use Rattle.dcd_base.specs.{Layouts.number_at, Payloads.has_flag}
use Rattle.explainer.specs.PartWords.{bytes_words, extent_in, extent_words, label_where, labelled}

-- the name of a kind in the specification, by its number
unfoldable pub kind_words : ℕ → List ℕ
kind_words n =
    if n == kind_number EventKind.Add then codes "Add Capacity"
    else if n == kind_number EventKind.Release then codes "Release Capacity"
    else if n == kind_number EventKind.Forced then codes "Forced Capacity Release"
    else if n == kind_number EventKind.RegionUpdated then codes "Region Configuration Updated"
    else if n == kind_number EventKind.AddResponse then codes "Add Capacity Response"
    else codes "Capacity Released"

-- the handle, the kind and the host of a record
unfoldable pub record_start : List ℕ → List ℕ
record_start bytes =
    labelled (codes "record ") (number_at w16 bytes 20) ++ codes ": " ++ kind_words (slice_index bytes 48) ++ labelled (codes ", host ") (number_at w16 bytes 50)

-- the extent that it is about
unfoldable pub record_extent : List ℕ → List ℕ
record_extent bytes = codes ", " ++ extent_words (extent_in bytes 56)

-- whether it tells that the configuration of a region was updated
abbrev pub is_update : List ℕ → Bool
is_update bytes = slice_index bytes 48 == kind_number EventKind.RegionUpdated

-- that region, or the extent
abbrev pub matter_where : Bool → List ℕ → List ℕ
matter_where true bytes = labelled (codes ", region ") (slice_index bytes 52)
matter_where false bytes = record_extent bytes

-- what it is about
abbrev pub record_matter : List ℕ → List ℕ
record_matter bytes = matter_where (is_update bytes) bytes

-- whether more of the same command follow, and what the host may still have
unfoldable pub record_end : List ℕ → List ℕ
record_end bytes =
    label_where (has_flag bytes 53) (codes ", more")
    ++ labelled (codes "; room for ") (number_at w32 bytes 120) ++ labelled (codes " extents, ") (number_at w32 bytes 124) ++ codes " tags"

-- the 128 bytes of a record; bytes that are none are shown as they are
unfoldable pub record_words : List ℕ → List ℕ
record_words bytes = if is_none (record_fault bytes) then record_start bytes ++ record_matter bytes ++ record_end bytes else bytes_words bytes
