-- A pass, and what a call makes of it.
use Rattle.std.specs.Prelude.{◌≡◌, ℕ, List, [], ◌∷◌, ◌++◌, map}
use mathlib.Core.Option.{some}
use lib.ListN.{get_elem?}
use Rattle.dcd_base.specs.declared.steps.{Actor.Actor, Stamp.Stamp}
use Rattle.block_shard.specs.journal_core.specs.{Merging.Call, Merging.call_of, declared.acts.Act.Act, declared.acts.Reply.Reply}
use Rattle.block_shard.specs.ruled_cells.specs.{Calls.IsOf, Calls.opened_with, Reads.about_of, Seats.saw_of, Seats.seat_view, Seats.tries_of, Stamps.Below, Stamps.stamp}
use Rattle.shared_device.specs.{Commanding.commanding_reads, declared.pass.Pass.Pass, declared.shared.Shared.Shared}

abbrev pub pass_number : Pass → ℕ
pass_number p = p.seat.number

abbrev pub pass_actor : Pass → Actor
pass_actor p = p.actor

-- the stamp of its last call
abbrev pub pass_seen : Pass → Stamp
pass_seen p = p.seen

-- all its calls so far, in order
abbrev pub pass_calls : Pass → List Call
pass_calls p = map call_of (seat_view p.seat).calls

-- how often it tried to get the turn of a shard or of the control
abbrev pub pass_tries : Pass → ℕ
pass_tries p = tries_of p.seat

-- what the last try read: 0, or the number of another pass plus 1
abbrev pub pass_saw : Pass → ℕ
pass_saw p = saw_of p.seat

-- the pass is one that was made with the device
pub record IsOneOf (s : Shared) (p : Pass) : Type 0 where
  pub seat : IsOf s.cells p.seat
  pub config : (seat_view p.seat).about.config ≡ s.config
  pub about : (seat_view p.seat).about ≡ about_of commanding_reads (opened_with s.cells)
  pub number : (seat_view p.seat).number ≡ pass_number p

-- it is the same pass
pub record IsSamePass (s : Shared) (p q : Pass) : Type 0 where
  pub of : IsOneOf s q
  pub number : pass_number q ≡ pass_number p
  pub actor : pass_actor q ≡ pass_actor p

-- one call was added, above all that the pass had seen
pub record Called (line : ℕ) (act : Act) (reply : Reply) (p q : Pass) : Type 0 where
  pub stamp : Stamp
  pub added : pass_calls q ≡ pass_calls p ++ record { line = line; act = act; reply = reply; stamp = stamp } ∷ []
  pub seen : pass_seen q ≡ stamp
  pub above : Below (pass_seen p) stamp

-- nothing was added
pub record Uncalled (p q : Pass) : Type 0 where
  pub calls : pass_calls q ≡ pass_calls p
  pub seen : pass_seen q ≡ pass_seen p

-- the k-th pass, as it was made
pub record IsNewPass (s : Shared) (actors : List Actor) (k : ℕ) (p : Pass) : Type 0 where
  pub of : IsOneOf s p
  pub number : pass_number p ≡ k
  pub actor : get_elem? actors k ≡ some (pass_actor p)
  pub calls : pass_calls p ≡ []
  pub seen : pass_seen p ≡ stamp 0 0
