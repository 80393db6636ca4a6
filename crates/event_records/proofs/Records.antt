-- A record reads as the event of its bytes, and as no other.
use Rattle.std.proofs.Common.{◌≡◌, ℕ, ◌^◌, ◌<◌, ◌≤◌, Bool, true, false, cond, not, eqb, ltb, List, [], ◌∷◌, ◌++◌, length, take, slice_index, Option, Some, None, refl, sym, ap, ◌∙◌, arith, eqb-true, eq-eqb, ltb-false, le-ltb}
use Rattle.std.{specs.List.list_all, proofs.lemmas.Grind.flat_map-append, specs.Int.w16, specs.Int.w32, specs.Int.w64}
use lib.Pointwise.{pointwise, bytes_decides}
use Rattle.event_records.specs.declared.{events.Event.Event, events.EventKind.EventKind, faults.RecordFault.RecordFault}
use Rattle.event_records.specs.Records.{record_uuid, record_fault, kind_number, head_bytes, end_bytes, record_bytes, record_head, end_fields, record_fields, IsEventIn, ReadsRecord, WritesRecord}
use Rattle.dcd_base.{proofs.Fields.IsBytes, proofs.Fields.spelled_reads, proofs.Widths.wide_16, proofs.Widths.wide_32, proofs.Widths.wide_64, specs.Extents.extent_bytes, specs.Extents.extent_fields}
use Rattle.dcd_base.specs.Layouts.{spell, spelling, is_byte}
use Rattle.dcd_base.proofs.Places.{Reads-from, all_from, byte_found, byte_only, end_found, fixed_found, fixed_only, flag_fits, flag_found, flag_only, number_found, number_only, raw_found, raw_only, reserved_found, reserved_only}

pub record_in_parts : (e : Event) → record_bytes e ≡ head_bytes e ++ extent_bytes e.extent ++ end_bytes e
unfolding record_bytes head_bytes extent_bytes end_bytes
record_in_parts e =
    flat_map-append spell (record_head e) (extent_fields e.extent ++ end_fields e)
    ∙ ap (λ (ys : List ℕ). spelling (record_head e) ++ ys) (flat_map-append spell (extent_fields e.extent) (end_fields e))

-- what the absence of the three faults says
record HasNoFault (bytes : List ℕ) : Type 0 where
  uuid : take 16 bytes ≡ record_uuid
  length : slice_index bytes 16 ≡ 128
  kind : slice_index bytes 48 ≤ 5

fault_free : (b : Bool) (f : RecordFault) (rest : Option RecordFault) → cond b (Some f) rest ≡ None → (b ≡ false) × (rest ≡ None)
fault_free true f rest e = absurd cc
fault_free false f rest e = (refl, e)

is_true : (b : Bool) → not b ≡ false → b ≡ true
is_true true e = refl
is_true false e = absurd cc

has_no_fault : (bytes : List ℕ) → record_fault bytes ≡ None → HasNoFault bytes
has_no_fault bytes ok =
    let of_uuid = fault_free (not (pointwise eqb (take 16 bytes) record_uuid)) RecordFault.OtherUuid _ ok in
    let of_length = fault_free (not (eqb (slice_index bytes 16) 128)) (RecordFault.OtherLength (slice_index bytes 16)) _ of_uuid.1 in
    let of_kind = fault_free (ltb 5 (slice_index bytes 48)) (RecordFault.UnknownKind (slice_index bytes 48)) None of_length.1 in
    record {
      uuid = (bytes_decides (take 16 bytes) record_uuid).0 (is_true _ of_uuid.0);
      length = eqb-true _ _ (is_true _ of_length.0);
      kind = ltb-false _ _ of_kind.0;
    }

no_record_fault : (bytes : List ℕ) → HasNoFault bytes → record_fault bytes ≡ None
no_record_fault bytes has =
    rw ((bytes_decides (take 16 bytes) record_uuid).1 has.uuid, eq-eqb (slice_index bytes 16) 128 has.length, le-ltb 5 (slice_index bytes 48) has.kind) refl

pub kind_small : (k : EventKind) → kind_number k ≤ 5
kind_small EventKind.Add = omega arith
kind_small EventKind.Release = omega arith
kind_small EventKind.Forced = omega arith
kind_small EventKind.RegionUpdated = omega arith
kind_small EventKind.AddResponse = omega arith
kind_small EventKind.Released = omega arith

-- ---- bytes to the event

pub record_reads : (bytes : List ℕ) (e : Event) → IsBytes bytes → length bytes ≡ 128 → record_fault bytes ≡ None → IsEventIn bytes e → ReadsRecord bytes e
unfolding ReadsRecord
record_reads bytes e small long ok is =
    let has = has_no_fault bytes ok in
    let counts = number_found w32 wide_32 bytes 120 124 _ small refl (number_found w32 wide_32 bytes 124 128 _ small refl (end_found bytes 128 long)) in
    let behind = number_found w16 wide_16 bytes 88 90 _ small refl (reserved_found bytes 90 96 6 _ refl (reserved_found bytes 96 120 24 _ refl counts)) in
    let extent = number_found w64 wide_64 bytes 56 64 _ small refl (number_found w64 wide_64 bytes 64 72 _ small refl (raw_found bytes 72 88 16 _ small refl behind)) in
    let region = byte_found bytes 52 53 _ small refl (flag_found bytes 53 54 _ refl (reserved_found bytes 54 56 2 _ refl extent)) in
    let what = byte_found bytes 48 49 _ small refl (fixed_found bytes 49 50 (3 ∷ []) _ refl (number_found w16 wide_16 bytes 50 52 _ small refl region)) in
    let others = reserved_found bytes 22 24 2 _ refl (reserved_found bytes 24 32 8 _ refl (reserved_found bytes 32 48 16 _ refl what)) in
    let header = byte_found bytes 16 17 _ small refl (reserved_found bytes 17 20 3 _ refl (number_found w16 wide_16 bytes 20 22 _ small refl others)) in
    let whole = Reads-from bytes _ small (raw_found bytes 0 16 16 _ small refl header) in
    rw (is.handle, is.kind, is.host, is.region, is.more, is.start, is.length, is.tag, is.sequence, is.extents_available, is.tags_available)
    (rw (has.uuid, has.length) at whole)

-- ---- the event from the bytes

pub record_read : (bytes : List ℕ) (e : Event) → ReadsRecord bytes e → (record_fault bytes ≡ None) × IsEventIn bytes e
unfolding ReadsRecord
record_read bytes e reads =
    let uuid = raw_only bytes 0 16 16 record_uuid _ refl (all_from bytes (record_fields e) (record { fits = reads.fits; agrees = reads.agrees })) in
    let len = byte_only bytes 16 17 128 _ refl uuid.1 in
    let handle = number_only w16 wide_16 bytes 20 22 e.handle _ refl (reserved_only bytes 17 20 3 _ refl len.1) in
    let others = reserved_only bytes 32 48 16 _ refl (reserved_only bytes 24 32 8 _ refl (reserved_only bytes 22 24 2 _ refl handle.1)) in
    let kind = byte_only bytes 48 49 (kind_number e.kind) _ refl others in
    let host = number_only w16 wide_16 bytes 50 52 e.host _ refl (fixed_only bytes 49 50 (3 ∷ []) _ refl kind.1) in
    let region = byte_only bytes 52 53 e.region _ refl host.1 in
    let more = flag_only bytes 53 54 e.more _ refl region.1 in
    let start = number_only w64 wide_64 bytes 56 64 e.extent.start _ refl (reserved_only bytes 54 56 2 _ refl more.1) in
    let size = number_only w64 wide_64 bytes 64 72 e.extent.length _ refl start.1 in
    let tag = raw_only bytes 72 88 16 e.extent.tag.0 _ refl size.1 in
    let sequence = number_only w16 wide_16 bytes 88 90 e.extent.sequence _ refl tag.1 in
    let behind = reserved_only bytes 96 120 24 _ refl (reserved_only bytes 90 96 6 _ refl sequence.1) in
    let extents = number_only w32 wide_32 bytes 120 124 e.extents_available _ refl behind in
    let tags = number_only w32 wide_32 bytes 124 128 e.tags_available _ refl extents.1 in (
      no_record_fault bytes (record { uuid = uuid.0; length = len.0; kind = omega (arith, kind.0, kind_small e.kind) }),
      record {
        handle = sym handle.0;
        kind = sym kind.0;
        host = sym host.0;
        region = sym region.0;
        more = sym more.0;
        start = sym start.0;
        length = sym size.0;
        tag = sym tag.0;
        sequence = sym sequence.0;
        extents_available = sym extents.0;
        tags_available = sym tags.0;
      },
    )

pub not_read : (bytes : List ℕ) (f : RecordFault) (e : Event) → record_fault bytes ≡ Some f → ReadsRecord bytes e → ⊥
not_read bytes f e fault reads =
    let none = (record_read bytes e reads).0 in
    absurd cc

same_kind : (a b : EventKind) → kind_number a ≡ kind_number b → a ≡ b
same_kind EventKind.Add EventKind.Add e = refl
same_kind EventKind.Release EventKind.Release e = refl
same_kind EventKind.Forced EventKind.Forced e = refl
same_kind EventKind.RegionUpdated EventKind.RegionUpdated e = refl
same_kind EventKind.AddResponse EventKind.AddResponse e = refl
same_kind EventKind.Released EventKind.Released e = refl
same_kind a b e = absurd (omega (arith, e))

-- bytes hold one event
pub same_event : (bytes : List ℕ) (a b : Event) → IsEventIn bytes a → IsEventIn bytes b → a ≡ b
same_event bytes a b x y =
    let kind : a.kind ≡ b.kind = same_kind a.kind b.kind (x.kind ∙ sym y.kind) in
    λ i. record {
      handle = (x.handle ∙ sym y.handle) i;
      kind = kind i;
      host = (x.host ∙ sym y.host) i;
      region = (x.region ∙ sym y.region) i;
      more = (x.more ∙ sym y.more) i;
      extent = record {
        start = (x.start ∙ sym y.start) i;
        length = (x.length ∙ sym y.length) i;
        tag = record { 0 = (x.tag ∙ sym y.tag) i };
        sequence = (x.sequence ∙ sym y.sequence) i;
      };
      extents_available = (x.extents_available ∙ sym y.extents_available) i;
      tags_available = (x.tags_available ∙ sym y.tags_available) i;
    }

-- ---- the spelling

pub record_writes : (e : Event) → e.handle < 2 ^ 16 → e.host < 2 ^ 16 → e.region < 256 → e.extent.start < 2 ^ 64 → e.extent.length < 2 ^ 64
    → length e.extent.tag.0 ≡ 16 → list_all is_byte e.extent.tag.0 ≡ true → e.extent.sequence < 2 ^ 16
    → e.extents_available < 2 ^ 32 → e.tags_available < 2 ^ 32 → WritesRecord e (record_bytes e)
unfolding WritesRecord record_bytes
record_writes e handle host region start len sixteen tag_bytes sequence extents tags = record {
  fits =
      ((refl, refl), (omega arith, (tt, (handle, (tt, (tt, (tt, (omega (arith, kind_small e.kind), (tt, (host, (region, (flag_fits e.more, (tt, (start, (len, ((sixteen, tag_bytes), (sequence, (tt, (tt, (extents, (tags, tt)))))))))))))))))))));
  spelled = refl;
}

pub record_spelled : (e : Event) (bytes : List ℕ) → WritesRecord e bytes → ReadsRecord bytes e
unfolding ReadsRecord WritesRecord
record_spelled e bytes writes =
    rw writes.spelled (spelled_reads (record_fields e) writes.fits
    (tt, (tt, (tt, (tt, (tt, (tt, (tt, (tt, (refl, (tt, (tt, (omega arith, (tt, (tt, (tt, (tt, (tt, (tt, (tt, (tt, (tt, tt))))))))))))))))))))))
