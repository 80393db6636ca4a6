-- What an act leaves of the hosts' lists and of the block sizes.
use Rattle.std.specs.Prelude.{◌≡◌, ◌≢◌, ℕ, Bool, ◌==◌, List, [], ◌++◌, None, filter, sum_by}
use Rattle.cci_codec.specs.declared.messages.Request.{Request}
use Rattle.dcd_base.specs.declared.{capacity.Extent.Extent, ids.HostId.HostId, steps.Actor.Actor}
use Rattle.dcd_codes.specs.declared.codes.Code.{Code}
use Rattle.region_config.specs.Configurations.{Configuration}
use Rattle.media_map.specs.Places.{region_at}
use Rattle.journal_core.specs.{Entries.effects, declared.acts.Act.Act, declared.entries.Entry.Entry, declared.outcome.Effect.Effect, declared.outcome.HeldKind.HeldKind}
use Rattle.isolation_laws.specs.device_rules.specs.{Answers.answer, Answers.broken, Answers.response, Hosts.accepted_of, Hosts.block_of, Hosts.held_of, Hosts.offers_of}

-- whether the extent begins in the region
abbrev pub begins_in : Configuration → HostId → ℕ → Extent → Bool
begins_in c h r x = region_at c h x.start == r

-- how many bytes the host has accepted in the region
abbrev pub bytes_in : Configuration → HostId → ℕ → List Effect → ℕ
bytes_in c h r past = sum_by (λ (x : Extent). x.length) (filter (begins_in c h r) (accepted_of c h past))

-- the effects so far, and those of the act behind them
abbrev pub effects_behind : Configuration → List Entry → Actor → Act → List Effect
effects_behind c journal actor act = effects journal ++ (answer c journal actor act).1

-- with a command of the host, and with one of the Fabric Manager
abbrev pub behind_host : Configuration → List Entry → HostId → Request → List Effect
behind_host c journal h q = effects_behind c journal (Actor.Host h) (Act.Command q)

abbrev pub behind_manager : Configuration → List Entry → Request → List Effect
behind_manager c journal q = effects_behind c journal Actor.Manager (Act.Command q)

-- The command breaks no rule, and is answered Success without a payload.
pub record Succeeds (c : Configuration) (journal : List Entry) (actor : Actor) (q : Request) : Type 0 where
  pub unbroken : broken c journal actor (Act.Command q) ≡ None
  pub success : (answer c journal actor (Act.Command q)).0 ≡ response q Code.Success []

-- The host's accepted extents, its offers and its held lists are as they were.
pub record KeepsHost (c : Configuration) (h : HostId) (before after : List Effect) : Type 0 where
  pub accepted : accepted_of c h after ≡ accepted_of c h before
  pub offers : offers_of h after ≡ offers_of h before
  pub held : (kind : HeldKind) → held_of h kind after ≡ held_of h kind before

-- Those of every host are, and the block sizes.
pub record KeepsHosts (c : Configuration) (before after : List Effect) : Type 0 where
  pub hosts : (h : HostId) → KeepsHost c h before after
  pub blocks : (r : ℕ) → block_of c r after ≡ block_of c r before

-- Those of every other host are, its own held lists, and the block sizes.
pub record KeepsOthers (c : Configuration) (h : HostId) (before after : List Effect) : Type 0 where
  pub others : (k : HostId) → h ≢ k → KeepsHost c k before after
  pub held : (kind : HeldKind) → held_of h kind after ≡ held_of h kind before
  pub blocks : (r : ℕ) → block_of c r after ≡ block_of c r before
