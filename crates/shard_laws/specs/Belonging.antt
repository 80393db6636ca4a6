-- Which shard a load or a store is of, and which shards a command touches.
use Rattle.std.specs.{List.list_any, Prelude.◌≡◌, Prelude.ℕ, Prelude.◌+◌, Prelude.◌%◌, Prelude.Bool, Prelude.false, Prelude.nat_lt, declared.result.Result.Result}
use Rattle.std.specs.declared.result.Result.TheVariants.{Ok, Err}
use Rattle.dcd_base.specs.declared.{failures.AccessFault.AccessFault, media.Place.Place, media.Run.Run, steps.Actor.Actor}
use Rattle.journal_core.specs.declared.{acts.Act.Act, entries.Entry.Entry, outcome.Effect.Effect}
use Rattle.media_map.specs.Places.{locate}
use Rattle.region_config.specs.Configurations.{Configuration}
use Rattle.shard_laws.specs.Stripes.{own_below}

-- ---- loads and stores

-- the shard of a place; what has no place is of shard 0
abbrev pub shard_at : Result Place AccessFault → ℕ
shard_at (Ok p) = p.granule % 16
shard_at (Err fault) = 0

-- the address that is asked for
abbrev pub asked_at : Act → ℕ
asked_at (Act.Load d) = d
asked_at (Act.Store d value) = d
asked_at act = 0

abbrev pub shard_by : Configuration → Actor → Act → ℕ
shard_by c (Actor.Host h) act = shard_at (locate c h (asked_at act))
shard_by c actor act = 0

abbrev pub shard_in : Configuration → Entry → ℕ
shard_in c e = shard_by c e.actor e.act

-- the load or store is of shard k
abbrev pub Belongs : Configuration → ℕ → Entry → Type 0
Belongs c k e = shard_in c e ≡ k

-- ---- commands and scrubs

-- whether one of the run's granules is of the shard
abbrev pub has_own : ℕ → Run → Bool
has_own k run = nat_lt (own_below k run.first) (own_below k (run.first + run.count))

-- whether the effect gives, takes or zeroes a granule of the shard
abbrev pub touches_own : ℕ → Effect → Bool
touches_own k (Effect.Take h run) = has_own k run
touches_own k (Effect.Leave h run) = has_own k run
touches_own k (Effect.Zero run) = has_own k run
touches_own k e = false

abbrev pub touches_shard : ℕ → Entry → Bool
touches_shard k e = list_any (touches_own k) e.effects
