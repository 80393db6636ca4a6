-- What a load or a store at the turn of its shard makes of a seat.
use Rattle.std.specs.Prelude.{◌≡◌, ℕ, ◌^◌, ◌<◌, false, length, None}
use mathlib.Core.Option.{some}
use lib.ListN.{get_elem?}
use Rattle.dcd_base.specs.declared.{ids.HostId.HostId, steps.Actor.Actor, steps.Stamp.Stamp}
use Rattle.block_shard.specs.journal_core.specs.{Accesses.access_entry, Entries.is_control, declared.acts.Act.Act, declared.acts.Reply.Reply}
use Rattle.block_shard.specs.ruled_cells.specs.{Seats.seat_number, Seats.seat_view, Stamps.Below, Telling.entered_view, declared.seat.Seat.Seat}
use Rattle.block_shard.specs.shard_laws.specs.{Belonging.asked_at, Belonging.shard_at, Stripes.Stripe}
use Rattle.media_map.specs.Places.{locate}
use Rattle.region_config.specs.Configurations.{Configuration}
use Rattle.shared_device.specs.{Commanding.Commanding, declared.target.Target.Target}

-- the place of the act's address for the host, and the shard of the place
pub record IsTarget (c : Configuration) (act : Act) (t : Target) : Type 0 where
  pub known : t.host < c.hosts
  pub access : is_control act ≡ false
  pub at : t.at ≡ locate c t.host (asked_at act)
  pub index : t.index ≡ shard_at t.at
  pub below : t.index < 16

-- the seat is the host's, is in the midst of no command, and has room for the load or store of the target
pub record MayVisit (c : Configuration) (act : Act) (t : Target) (s : Seat Commanding Stripe) : Type 0 where
  pub target : IsTarget c act t
  pub config : (seat_view s).about.config ≡ c
  pub actor : get_elem? (seat_view s).about.actors (seat_number s) ≡ some (Actor.Host t.host)
  pub idle : (seat_view s).entry ≡ None
  pub room : length (seat_view s).calls < 2 ^ 32

-- the seat s became t by one load or store, above all that it had seen
pub record HasVisited (line : ℕ) (host : HostId) (act : Act) (done : Reply × Stamp) (s t : Seat Commanding Stripe) : Type 0 where
  pub view : seat_view t ≡ entered_view (access_entry (seat_number s) line host act done.0 done.1) (seat_view s)
  pub above : Below (seat_view s).seen done.1
