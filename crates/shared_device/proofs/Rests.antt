-- A pass's seat between two calls.
use Rattle.std.proofs.Common.{◌≡◌, ℕ, ◌+◌, None, length, ap, ◌∙◌}
use mathlib.Core.Option.{some}
use lib.ListN.{get_elem?}
use Rattle.dcd_base.specs.declared.{ids.HostId.HostId, steps.Actor.Actor, steps.Stamp.Stamp}
use Rattle.block_shard.specs.journal_core.specs.declared.acts.{Act.Act, Reply.Reply}
use Rattle.block_shard.specs.ruled_cells.specs.{Seats.IsSameSeat, Seats.NoTurns, Seats.seat_number, Seats.seat_view, declared.about.SeatView.SeatView, declared.seat.Seat.Seat}
use Rattle.block_shard.specs.shard_laws.specs.Stripes.{Stripe}
use Rattle.shared_device.{specs.Commanding.Commanding, specs.Visiting.HasVisited, proofs.Visits.call_counted}

-- it has no turn, and this is its actor, what it has seen and how many calls it has made
pub record Rests (s : Seat Commanding Stripe) (actor : Actor) (seen : Stamp) (calls : ℕ) : Type 0 where
  pub resting : NoTurns s
  pub idle : (seat_view s).entry ≡ None
  pub seen_is : (seat_view s).seen ≡ seen
  pub counted : length (seat_view s).calls ≡ calls
  pub acts : get_elem? (seat_view s).about.actors (seat_number s) ≡ some actor

-- a call that did nothing
pub rests_again : (s u : Seat Commanding Stripe) (actor : Actor) (seen : Stamp) (calls : ℕ) → Rests s actor seen calls → NoTurns u → IsSameSeat s u → seat_view u ≡ seat_view s → Rests u actor seen calls
rests_again s u actor seen calls rests bare same view = record {
  resting = bare;
  idle = ap (λ (v : SeatView). v.entry) view ∙ rests.idle;
  seen_is = ap (λ (v : SeatView). v.seen) view ∙ rests.seen_is;
  counted = ap (λ (v : SeatView). length v.calls) view ∙ rests.counted;
  acts = (λ i. get_elem? (view i).about.actors (same.number i)) ∙ rests.acts;
}

-- a load or a store
pub rests_after : (line : ℕ) (h : HostId) (act : Act) (d : Reply × Stamp) (s u : Seat Commanding Stripe) (actor : Actor) (seen : Stamp) (calls : ℕ) → Rests s actor seen calls → NoTurns u → IsSameSeat s u → HasVisited line h act d s u → Rests u actor d.1 (calls + 1)
rests_after line h act d s u actor seen calls rests bare same has = record {
  resting = bare;
  idle = ap (λ (v : SeatView). v.entry) has.view ∙ rests.idle;
  seen_is = ap (λ (v : SeatView). v.seen) has.view;
  counted = call_counted line h act d s u has ∙ ap (λ n. n + 1) rests.counted;
  acts = (λ i. get_elem? (has.view i).about.actors (same.number i)) ∙ rests.acts;
}
