-- A page that the device makes of records is read as those records.
use Rattle.std.proofs.Common.{◌≡◌, ℕ, ◌+◌, ◌*◌, ◌^◌, ◌<◌, Bool, List, [], ◌∷◌, ◌++◌, length, map, flat_map, take, drop, Some, None, refl, sym, ap, subst, ◌∙◌, arith, length-append}
use Rattle.std.{proofs.lemmas.Bool.eq-eqb, proofs.lemmas.Bool.le-ltb, proofs.lemmas.List.drop_at, proofs.lemmas.List.take_at, proofs.lemmas.Nat.from_le_bytes-to_le_bytes_2, specs.List.AllByRecursion}
use Rattle.std.specs.Prelude.{if◌then◌else◌}
use Rattle.dcd_base.specs.{declared.capacity.Extent.Extent, Extents.extent_bytes, Layouts.pieces}
use Rattle.event_records.proofs.Records.{record_in_parts, record_read, record_spelled}
use Rattle.event_records.specs.{Records.WritesRecord, Records.end_bytes, Records.head_bytes, Records.record_bytes, Records.record_fault, declared.events.Event.Event}
use Rattle.host_payloads.{specs.HostPayloads.FitsListed, specs.HostPayloads.events_head, specs.HostPayloads.events_payload, proofs.Written.events_spelled}
use Rattle.host_driver.proofs.Events.{event_is}
use Rattle.host_driver.specs.{Pages.bad_record, Pages.event_in, Pages.events_in, Pages.page_fault, Pages.record_count, Pages.record_pieces, Pages.records_length, Spelling.IsSpelled}
use Rattle.host_driver.specs.declared.faults.DriverFault.{DriverFault}

-- so its extent can be listed
pub spelled_fits : (e : Event) → IsSpelled e → FitsListed e.extent
unfolding WritesRecord
spelled_fits e s = (s.fits.1.1.1.1.1.1.1.1.1.1.1.1.1.0, s.fits.1.1.1.1.1.1.1.1.1.1.1.1.1.1.0)

-- and its handle
pub spelled_handle : (e : Event) → IsSpelled e → e.handle < 2 ^ 16
unfolding WritesRecord
spelled_handle e s = s.fits.1.1.1.0

-- ---- how long a record is

tag_long : (e : Event) → IsSpelled e → length e.extent.tag.0 ≡ 16
unfolding WritesRecord
tag_long e s = s.fits.1.1.1.1.1.1.1.1.1.1.1.1.1.1.1.0.0

head_long : (e : Event) → length (head_bytes e) ≡ 56
unfolding head_bytes
head_long e = refl

end_long : (e : Event) → length (end_bytes e) ≡ 32
unfolding end_bytes
end_long e = refl

extent_long : (x : Extent) → length x.tag.0 ≡ 16 → length (extent_bytes x) ≡ 40
unfolding extent_bytes
extent_long x sixteen = simp (length-append, sixteen) refl

pub record_long : (e : Event) → IsSpelled e → length (record_bytes e) ≡ 128
record_long e s =
    omega (
      arith,
      ap length (record_in_parts e),
      length-append (head_bytes e) (extent_bytes e.extent ++ end_bytes e),
      length-append (extent_bytes e.extent) (end_bytes e),
      length-append (head_bytes e ++ extent_bytes e.extent) (end_bytes e),
      length-append (head_bytes e) (extent_bytes e.extent),
      head_long e,
      extent_long e.extent (tag_long e s),
      end_long e,
    )

-- ---- one record

read_again : (e : Event) → IsSpelled e → (record_fault (record_bytes e) ≡ None) × (event_in (record_bytes e) ≡ e)
read_again e s =
    let r = record_read (record_bytes e) e (record_spelled e (record_bytes e) s) in
    (r.0, sym (event_is (record_bytes e) e r.1))

-- ---- all records

-- they are read, and none is bad
pub record ReadsAll (events : List Event) (bytes : List ℕ) : Type 0 where
  pub read : map event_in (pieces 128 (length events) bytes) ≡ events
  pub sound : (index : ℕ) → bad_record index (pieces 128 (length events) bytes) ≡ None
  pub long : length bytes ≡ 128 * length events

pub reads_all : (events : List Event) → AllByRecursion IsSpelled events → ReadsAll events (flat_map record_bytes events)
reads_all [] all = record { read = refl; sound = λ index. refl; long = refl }
reads_all (e ∷ events) (s, all) =
    let more = reads_all events all in
    let rest : List ℕ = flat_map record_bytes events in
    let first : take 128 (record_bytes e ++ rest) ≡ record_bytes e = take_at (record_bytes e) rest 128 (record_long e s) in
    let behind : drop 128 (record_bytes e ++ rest) ≡ rest = drop_at (record_bytes e) rest 128 (record_long e s) in
    let one = read_again e s in
    record {
      read = rw (first, behind, one.1, more.read) refl;
      sound = λ index. rw (first, behind, one.0) (more.sound (index + 1));
      long = omega (arith, length-append (record_bytes e) rest, record_long e s, more.long);
    }

-- ---- a page

head_first : (missed : ℕ) (more : Bool) (count : ℕ) → length (events_head missed more count) ≡ 32
unfolding events_head
head_first missed more count = refl

count_at : (missed : ℕ) (more : Bool) (count : ℕ) (rest : List ℕ) → count < 2 ^ 16 → record_count (events_head missed more count ++ rest) ≡ count
unfolding events_head
count_at missed more count rest few = from_le_bytes-to_le_bytes_2 count few

pub record ReadsPage (events : List Event) (payload : List ℕ) : Type 0 where
  pub sound : page_fault payload ≡ None
  pub read : events_in payload ≡ events

pub page_back : (missed : ℕ) (more : Bool) (events : List Event) → length events < 2 ^ 16 → AllByRecursion IsSpelled events
    → ReadsPage events (events_payload missed more events)
page_back missed more events few all =
    subst (ReadsPage events) (events_spelled missed more events) (record {
      sound =
          ap (λ b. if b then bad_record 0 (record_pieces bytes) else Some (DriverFault.WrongLength (records_length bytes) (length bytes))) (eq-eqb (length bytes) (records_length bytes) (sym enough))
          ∙ (λ i. bad_record 0 (pieces 128 (count i) (behind i))) ∙ r.sound 0;
      read = (λ i. map event_in (pieces 128 (count i) (behind i))) ∙ r.read;
    })
  where
    r : ReadsAll events (flat_map record_bytes events)
    r = reads_all events all

    bytes : List ℕ
    bytes = events_head missed more (length events) ++ flat_map record_bytes events

    count : record_count bytes ≡ length events
    count = count_at missed more (length events) (flat_map record_bytes events) few

    behind : drop 32 bytes ≡ flat_map record_bytes events
    behind = drop_at (events_head missed more (length events)) (flat_map record_bytes events) 32 (head_first missed more (length events))

    whole : length bytes ≡ 32 + 128 * length events
    whole = omega (arith, length-append (events_head missed more (length events)) (flat_map record_bytes events), head_first missed more (length events), r.long)

    enough : records_length bytes ≡ length bytes
    enough = rw (le-ltb (length bytes) 32 (omega (arith, whole))) (ap (λ n. 32 + 128 * n) count ∙ sym whole)
