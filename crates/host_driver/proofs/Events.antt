-- The event that a record is, and the records of a page one by one.
use Rattle.std.proofs.Common.{◌≡◌, ℕ, zero, suc, ◌+◌, ◌-◌, ◌<◌, ◌≤◌, List, take, drop, slice_index, Some, None, refl, arith}
use Rattle.event_records.{proofs.Records.same_event, proofs.Records.kind_small as kind_up_to, specs.Records.IsEventIn, specs.Records.kind_number, specs.Records.record_fault}
use Rattle.event_records.specs.declared.events.Event.{Event}
use Rattle.dcd_base.specs.Layouts.{pieces}
use Rattle.host_driver.specs.{Pages.bad_at, Pages.bad_record, Pages.event_in, Pages.kind_in, declared.faults.DriverFault.DriverFault}

kind_back : (n : ℕ) → n ≤ 5 → kind_number (kind_in n) ≡ n
kind_back zero few = refl
kind_back (suc zero) few = refl
kind_back (suc (suc zero)) few = refl
kind_back (suc (suc (suc zero))) few = refl
kind_back (suc (suc (suc (suc zero)))) few = refl
kind_back (suc (suc (suc (suc (suc zero))))) few = refl
kind_back (suc (suc (suc (suc (suc (suc n)))))) few = absurd (omega (arith, few))

event_in_is : (bytes : List ℕ) (e : Event) → IsEventIn bytes e → IsEventIn bytes (event_in bytes)
unfolding event_in
event_in_is bytes e is = record {
  handle = refl;
  kind = kind_back (slice_index bytes 48) (omega (arith, is.kind, kind_up_to e.kind));
  host = refl;
  region = refl;
  more = refl;
  start = refl;
  length = refl;
  tag = refl;
  sequence = refl;
  extents_available = refl;
  tags_available = refl;
}

-- what is read of a record is the event that it is
pub event_is : (bytes : List ℕ) (e : Event) → IsEventIn bytes e → e ≡ event_in bytes
event_is bytes e is = same_event bytes e (event_in bytes) is (event_in_is bytes e is)

-- one record more of a page: it is the first that is bad, or those behind it are as bad as before
pub bad_here : (index n i : ℕ) (rest : List ℕ) (fault : DriverFault) → i < n → bad_at index (record_fault (take 128 rest)) ≡ Some fault
    → bad_record index (pieces 128 (n - i) rest) ≡ Some fault
bad_here index n i rest fault lt bad =
    let more : n - i ≡ suc (n - (i + 1)) = omega (arith, lt) in
    rw (more, bad) refl

pub bad_behind : (index n i : ℕ) (rest : List ℕ) → i < n → record_fault (take 128 rest) ≡ None
    → bad_record index (pieces 128 (n - i) rest) ≡ bad_record (index + 1) (pieces 128 (n - (i + 1)) (drop 128 rest))
bad_behind index n i rest lt sound =
    let more : n - i ≡ suc (n - (i + 1)) = omega (arith, lt) in
    rw (more, sound) refl
