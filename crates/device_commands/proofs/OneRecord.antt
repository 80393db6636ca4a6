-- The records of one extent alone.
use Rattle.std.proofs.Common.{◌≡◌, ◌<◌, ◌≤◌, List, [], ◌∷◌, length, ap, arith, false}
use Rattle.std.specs.Prelude.{slice_index_or}
use Rattle.cci_codec.specs.dcd_base.specs.declared.{capacity.Extent.Extent, ids.HostId.HostId}
use Rattle.event_records.specs.declared.events.{Event.Event, EventKind.EventKind}
use Rattle.device_rules.specs.{Outcomes.record_for, Outcomes.records_of_extents, Views.View}

pub one_told : (h : HostId) (v : View) (kind : EventKind) (e : Event) (d : Extent) (xs : List Extent) → 1 ≤ length xs → length xs < 2 → e ≡ record_for h v kind false (slice_index_or xs 0 d) → e ∷ [] ≡ records_of_extents h v kind xs
one_told h v kind e d [] some few is = absurd (omega (arith, some))
one_told h v kind e d (x ∷ []) some few is = ap (λ (f : Event). f ∷ []) is
one_told h v kind e d (x ∷ y ∷ zs) some few is = absurd (omega (arith, few))
