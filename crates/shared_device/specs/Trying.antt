-- What tries tell.
use Rattle.std.specs.{Prelude.◌≡◌, Prelude.◌≢◌, Prelude.ℕ, Prelude.suc, Prelude.◌+◌, Prelude.◌<◌, declared.result.Result.Result}
use Rattle.std.specs.declared.result.Result.TheVariants.{Ok, Err}
use Rattle.block_shard.specs.{journal_core.specs.declared.acts.Act.Act, journal_core.specs.declared.acts.Reply.Reply, ruled_cells.specs.Calls.seats_of, ruled_cells.specs.Seats.tried_at}
use Rattle.block_shard.specs.shard_laws.specs.Belonging.{shard_by}
use Rattle.shared_device.specs.{Passing.Called, Passing.Uncalled, Passing.pass_actor, Passing.pass_number, Passing.pass_saw, declared.faults.TryFault.TryFault, declared.pass.Pass.Pass}
use Rattle.shared_device.specs.declared.shared.Shared.{Shared}

-- the try was at the turn of the act's shard, or of shard 0 where it has no place
abbrev pub AtItsShard : Shared → Act → Pass → Type 0
AtItsShard s act q = tried_at q.seat ≡ suc (shard_by s.config (pass_actor q) act)

-- The one step of the call read the turn as free, or as that of another pass: a call was added, or the turn was another's,
-- or there was no memory.
abbrev pub Tried : Shared → ℕ → Act → Pass → Pass → Result Reply TryFault → Type 0
Tried s line act p q (Ok reply) = (pass_saw q ≡ 0) × Called line act reply p q
Tried s line act p q (Err (TryFault.Busy seen)) = (pass_saw q ≡ seen + 1) × (seen < seats_of s.cells) × (seen ≢ pass_number p) × Uncalled p q
Tried s line act p q (Err TryFault.NoMemory) = (pass_saw q ≡ 0) × Uncalled p q
