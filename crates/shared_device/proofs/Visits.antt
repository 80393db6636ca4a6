-- A load or a store at a shard that was taken, and what the seat knows once the shard is given back.
use Rattle.std.proofs.{Common.◌≡◌, Common.ℕ, Common.◌+◌, Common.length, Common.ap, Common.◌∙◌, Common.subst, lemmas.List.length_push}
use Rattle.dcd_base.specs.declared.{ids.HostId.HostId, steps.Stamp.Stamp}
use Rattle.block_shard.specs.journal_core.specs.{Accesses.access_entry, declared.acts.Act.Act, declared.acts.Reply.Reply}
use Rattle.block_shard.specs.ruled_cells.specs.{Seats.IsSameSeat, Seats.seat_number, Seats.seat_view, Stamps.Below, Telling.entered_view, declared.about.SeatView.SeatView, declared.seat.Seat.Seat}
use Rattle.block_shard.specs.shard_laws.specs.Stripes.{Stripe}
use Rattle.shared_device.specs.{Commanding.Commanding, Visiting.HasVisited}

-- ---- what the seat knows then

-- ---- a pass's call

pub visited_since : (line : ℕ) (h : HostId) (act : Act) (d : Reply × Stamp) (s t u : Seat Commanding Stripe) → IsSameSeat s t → seat_view t ≡ seat_view s → HasVisited line h act d t u → HasVisited line h act d s u
visited_since line h act d s t u same view has = record {
  view = has.view ∙ (λ i. entered_view (access_entry (same.number i) line h act d.0 d.1) (view i));
  above = subst (λ (v : SeatView). Below v.seen d.1) view has.above;
}

pub call_counted : (line : ℕ) (h : HostId) (act : Act) (d : Reply × Stamp) (s u : Seat Commanding Stripe) → HasVisited line h act d s u → length (seat_view u).calls ≡ length (seat_view s).calls + 1
call_counted line h act d s u has = ap (λ (v : SeatView). length v.calls) has.view ∙ length_push (seat_view s).calls (access_entry (seat_number s) line h act d.0 d.1)
