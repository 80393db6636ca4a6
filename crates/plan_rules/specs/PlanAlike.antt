-- Journals that a plan cannot tell apart.
use Rattle.std.specs.Prelude.{◌≡◌, List, [], ◌∷◌, ◌++◌, fold, if◌then◌else◌}
use Rattle.dcd_base.specs.declared.ids.HostId.{HostId}
use Rattle.region_config.specs.Configurations.{Configuration}
use Rattle.journal_core.specs.{Entries.effects, Entries.is_control, declared.entries.Entry.Entry}
use Rattle.isolation_laws.specs.device_rules.specs.Hosts.{changes_of}
use Rattle.plan_rules.specs.Holding.{entry_of_step}

-- Both have had the same effects, and changed each host's list as often: one may have loads and stores that the other
-- has not, and lines and stamps of its own.
pub record PlanAlike (a b : List Entry) : Type 0 where
  pub past : effects a ≡ effects b
  pub changes : (h : HostId) → changes_of h a ≡ changes_of h b

-- the act of an entry taken again behind these entries, where it is a command or a scrub
abbrev pub with_act_of : Configuration → List Entry → Entry → List Entry
with_act_of c before e = if is_control e.act then before ++ entry_of_step c before (e.actor, e.act) ∷ [] else before

-- the commands and scrubs of a journal taken again from the first on
abbrev pub replayed : Configuration → List Entry → List Entry
replayed c journal = fold (with_act_of c) [] journal
