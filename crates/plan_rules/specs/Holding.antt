-- What a host holds in a region, and how acts go on from a journal.
use Rattle.std.specs.Prelude.{Bool, true, false, ℕ, ◌+◌, ◌-◌, ◌/◌, ◌==◌, List, [], ◌∷◌, ◌++◌, length, sum_by}
use Rattle.std.specs.List.{filter}
use Rattle.dcd_base.specs.declared.{capacity.Extent.Extent, ids.HostId.HostId, steps.Actor.Actor}
use Rattle.region_config.specs.Configurations.{Configuration}
use Rattle.media_map.specs.Places.{region_at}
use Rattle.journal_core.specs.declared.{acts.Act.Act, outcome.Effect.Effect, entries.Entry.Entry}
use Rattle.isolation_laws.specs.device_rules.specs.{Answers.answer, Hosts.accepted_of, Hosts.block_of}
use Rattle.plan_rules.specs.declared.demands.Demand.{Demand}

-- ---- holdings

-- the host's accepted extents in the region, in the order of its list
abbrev pub extents_in_region : Configuration → HostId → ℕ → List Effect → List Extent
extents_in_region c h r past = filter (λ (x : Extent). region_at c h x.start == r) (accepted_of c h past)

-- how many blocks of the present size they have
abbrev pub blocks_held : Configuration → HostId → ℕ → List Effect → ℕ
blocks_held c h r past = sum_by (λ (x : Extent). x.length) (extents_in_region c h r past) / block_of c r past

-- how many blocks the host is to lose, and how many it is to gain; one of them is 0
abbrev pub surplus : Configuration → List Effect → Demand → ℕ
surplus c past x = blocks_held c x.host x.region past - x.blocks

abbrev pub gain : Configuration → List Effect → Demand → ℕ
gain c past x = x.blocks - blocks_held c x.host x.region past

-- ---- acts

-- an actor and what it does
abbrev pub Step : Type 0
Step = Actor × Act

-- a message of a host or of the manager, or a scrub
abbrev pub is_planned_step : Step → Bool
is_planned_step (Actor.Host h, Act.Command q) = true
is_planned_step (Actor.Manager, Act.Command q) = true
is_planned_step (Actor.Sanitizer, Act.Scrub n) = true
is_planned_step s = false

-- the entry that it becomes behind these, of pass 0 and line 0
abbrev pub entry_of_step : Configuration → List Entry → Step → Entry
entry_of_step c before s = record {
  pass = 0;
  line = 0;
  actor = s.0;
  act = s.1;
  reply = (answer c before s.0 s.1).0;
  effects = (answer c before s.0 s.1).1;
  stamp = record { number = length before + 1; count = 0 };
}

-- the journal after these acts too
abbrev pub stepped : Configuration → List Entry → List Step → List Entry
stepped c journal [] = journal
stepped c journal (s ∷ rest) = stepped c (journal ++ entry_of_step c journal s ∷ []) rest
