-- Demands that name what the device has.
use Rattle.std.specs.Prelude.{ℕ, ◌<◌, ◌≤◌, get_or, length}
use Rattle.region_config.specs.Configurations.{Configuration}
use Rattle.plan_rules.specs.declared.demands.{Demand.Demand, Demands.Demands}

-- The demand's host and region are of the device.
pub record IsPlaced (c : Configuration) (x : Demand) : Type 0 where
  pub host : x.host < c.hosts
  pub region : x.region < length c.regions

-- So are all dead hosts and demands, and there are no more demands than a device can have hosts in regions.
pub record ArePlaced (c : Configuration) (q : Demands) : Type 0 where
  pub dead : (k d : ℕ) → k < length q.dead → get_or q.dead k d < c.hosts
  pub few : length q.demands ≤ 128
  pub demands : (k : ℕ) (d : Demand) → k < length q.demands → IsPlaced c (get_or q.demands k d)
