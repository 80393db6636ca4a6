-- What a plan leaves.
use Rattle.std.specs.{Prelude.◌≡◌, Prelude.ℕ, Prelude.◌<◌, Prelude.◌≤◌, Prelude.List, Prelude.[], Prelude.IsTrue, List.Contains}
use Rattle.dcd_base.specs.declared.ids.HostId.{HostId}
use Rattle.region_config.specs.{Configurations.Configuration, Granules.granule_total, Granules.region_of}
use Rattle.journal_core.specs.{Holders.holds, declared.outcome.Effect.Effect}
use Rattle.isolation_laws.specs.device_rules.specs.Hosts.{accepted_of, offers_of}
use Rattle.plan_rules.specs.{Holding.blocks_held, Holding.extents_in_region, declared.demands.Demand.Demand, declared.demands.Demands.Demands}

-- All that the host holds of the region first, it holds second too.
abbrev pub HoldsStill : Configuration → HostId → ℕ → List Effect → List Effect → Type 0
HoldsStill c h r first second = (g : ℕ) → g < granule_total c → region_of c g ≡ r → IsTrue (holds h g first) → IsTrue (holds h g second)

-- A demand names this host and this region.
abbrev pub IsNamed : Demands → HostId → ℕ → Type 0
IsNamed q h r = (x : Demand) × Contains q.demands x × (x.host ≡ h) × (x.region ≡ r)

-- Each demanded host has the demanded blocks, and gained or lost only what it had to; a dead host has nothing; and
-- everybody else has the same extents as before.
pub record MeetsDemands (c : Configuration) (before after : List Effect) (q : Demands) : Type 0 where
  pub demanded : (x : Demand) → Contains q.demands x → blocks_held c x.host x.region after ≡ x.blocks
  pub loses : (x : Demand) → Contains q.demands x → x.blocks ≤ blocks_held c x.host x.region before → HoldsStill c x.host x.region after before
  pub keeps : (x : Demand) → Contains q.demands x → blocks_held c x.host x.region before ≤ x.blocks → HoldsStill c x.host x.region before after
  pub dead_extents : (h : ℕ) → Contains q.dead h → accepted_of c h after ≡ []
  pub dead_offers : (h : ℕ) → Contains q.dead h → offers_of h after ≡ []
  pub others : (h : HostId) (r : ℕ) → h < c.hosts → (IsNamed q h r → ⊥) → (Contains q.dead h → ⊥) →
      extents_in_region c h r after ≡ extents_in_region c h r before
  pub offers : (h : HostId) → h < c.hosts → (Contains q.dead h → ⊥) → offers_of h after ≡ offers_of h before
