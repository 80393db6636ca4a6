-- Why handles cannot be cleared, one place at a time.
use Rattle.std.proofs.Common.{ℕ, ◌≡◌, ◌==◌, ◌+◌, ◌<◌, if◌then◌else◌, List, drop, length, get_or, inl, inr, Some, None, slice_get, refl}
use Rattle.std.proofs.lemmas.{Bool.eq-eqb, Bool.ne_eqb, List.drop_more, List.drop_all, Option.slice_get_within, Option.slice_get_cases, Option.get_or_from_slice_get}
use Rattle.event_records.specs.declared.events.Event.{Event}
use Rattle.event_log.specs.{declared.faults.ClearFault.TheVariants.UnknownHandle, LogStates.clear_fault, LogStates.handle_fault}

-- a place where there is a record
at_record : (handles : List ℕ) (records : List Event) (i : ℕ) (e : Event) → i < length handles → slice_get records i ≡ Some e
    → clear_fault (drop i handles) (drop i records)
    ≡ (if get_or handles i 0 == e.handle then clear_fault (drop (i + 1) handles) (drop (i + 1) records)
    else Some (handle_fault (get_or handles i 0) e.handle (drop i records)))
at_record handles records i e lt is =
    let within = slice_get_within records i e is in
    rw (drop_more handles i 0 lt, drop_more records i e within, get_or_from_slice_get records i e e is) refl

-- the record there has the handle
pub in_place : (handles : List ℕ) (records : List Event) (i : ℕ) (e : Event) → i < length handles → slice_get records i ≡ Some e
    → get_or handles i 0 ≡ e.handle
    → clear_fault (drop (i + 1) handles) (drop (i + 1) records) ≡ clear_fault (drop i handles) (drop i records)
in_place handles records i e lt is same = rw (at_record handles records i e lt is, eq-eqb _ _ same) refl

-- it has another handle
pub out_of_place : (handles : List ℕ) (records : List Event) (i : ℕ) (e : Event) → i < length handles → slice_get records i ≡ Some e
    → (get_or handles i 0 ≡ e.handle → ⊥)
    → Some (handle_fault (get_or handles i 0) e.handle (drop i records)) ≡ clear_fault (drop i handles) (drop i records)
out_of_place handles records i e lt is other = rw (at_record handles records i e lt is, ne_eqb _ _ other) refl

-- a place past the last record
pub past_records : (handles : List ℕ) (records : List Event) (i : ℕ) → i < length handles → slice_get records i ≡ None
    → Some (UnknownHandle (get_or handles i 0)) ≡ clear_fault (drop i handles) (drop i records)
past_records handles records i lt none =
    elim (slice_get_cases records i).1 [
      | inl found ↦ absurd (cc)
      | inr past ↦ rw (drop_more handles i 0 lt, drop_all i records past.0) refl
    ]
