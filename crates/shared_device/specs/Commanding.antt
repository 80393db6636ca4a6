-- The first cell as contracts see it, and what the rule of the cells reads of it.
use Rattle.std.specs.Prelude.{ℕ, List, [], ◌∷◌, ◌++◌, replicate, flat_map}
use Rattle.dcd_base.specs.declared.steps.Actor.{Actor}
use Rattle.control_core.specs.device_rules.specs.Legal.{Legal}
use Rattle.block_shard.specs.{journal_core.specs.declared.entries.Entry.Entry, ruled_cells.specs.Reads.ChiefReads}
use Rattle.region_config.specs.{Configurations.Configuration, Granules.hosts_of}

-- the configuration that the control was made with, its commands and scrubs, how many more it has room for, and the
-- actor of each pass
pub record Commanding : Type 0 where
  pub config : Configuration
  pub entries : List Entry
  pub spare : ℕ
  pub actors : List Actor

-- The actor of each pass: host by host and lane by lane, then the Fabric Manager, then the sanitizer.
abbrev pub actors_of : Configuration → ℕ → List Actor
actors_of c lanes = flat_map (λ h. replicate lanes (Actor.Host h)) (hosts_of c) ++ Actor.Manager ∷ Actor.Sanitizer ∷ []

abbrev pub commanding_reads : ChiefReads Commanding
commanding_reads = record {
  journal = λ x. x.entries;
  config = λ x. x.config;
  actors = λ x. x.actors;
  sound = λ x. Legal x.config x.entries;
}
