-- A list of acts that is tried on a control of its own.
use Rattle.std.specs.Prelude.{◌≡◌, ◌==◌, ◌++◌, ℕ, if◌then◌else◌, List, Option, None, Some, length, nat_lt, option_map}
use Rattle.std.specs.declared.result.Result.{Result, TheVariants.Ok, TheVariants.Err}
use Rattle.region_config.specs.Configurations.{Configuration}
use Rattle.journal_core.specs.declared.{entries.Entry.Entry, outcome.Effect.Effect}
use Rattle.plan_rules.specs.{Holding.Step, Holding.gain, Holding.stepped, Listing.prepared, PlanAlike.PlanAlike, PlanAlike.replayed}
use Rattle.plan_rules.specs.{Planning.free_in, Planning.lowest_below, Planning.need_in, Planning.refused_in, declared.demands.Demand.Demand, declared.demands.Demands.Demands}
use Rattle.plan_rules.specs.declared.faults.PlanFault.{PlanFault}
use Rattle.pool_planner.specs.declared.trial.Trial.{Trial}

-- These acts were tried from these entries on, and the first refused one is known.
pub record IsTried (c : Configuration) (start : List Entry) (acts : List Step) (t : Trial) : Type 0 where
  pub entries : t.control.entries ≡ stepped c start acts
  pub acts_are : t.acts ≡ acts
  pub refused : t.refused ≡ refused_in c start acts

-- More acts were tried.
pub record TriesMore (old new : Trial) (more : List Step) : Type 0 where
  pub config : new.control.config ≡ old.control.config
  pub entries : new.control.entries ≡ stepped old.control.config old.control.entries more
  pub tried : (start : List Entry) (acts : List Step) → IsTried old.control.config start acts old → IsTried old.control.config start (acts ++ more) new

-- A front of the whole list was tried, and the rest is left.
pub record GoesOnTo (old new : Trial) (whole rest : List Step) : Type 0 where
  pub done : List Step
  pub takes : TriesMore old new done
  pub parts : whole ≡ done ++ rest

-- how many blocks a demand gains, if it is of this region
abbrev pub gain_in_region : Configuration → List Effect → ℕ → Demand → ℕ
gain_in_region c past r x = if x.region == r then gain c past x else 0

-- the first region in which more is to be gained, by the effects before the list, than is free after these
abbrev pub short_between : Configuration → List Effect → List Effect → Demands → Option PlanFault
short_between c before after q =
    option_map (λ r. PlanFault.Short r (need_in c before q r) (free_in c after r))
    (lowest_below (λ r. nat_lt (free_in c after r) (need_in c before q r)) (length c.regions))

-- The acts by which all that is to be lost is lost and zeroed were tried behind what the entries did.
pub record IsPrepared (c : Configuration) (journal : List Entry) (q : Demands) (t : Trial) : Type 0 where
  pub alike : PlanAlike (replayed c journal) journal
  pub config : t.control.config ≡ c
  pub tried : IsTried c (replayed c journal) (prepared c (replayed c journal) q) t

-- The acts of the trial, where none of them was refused, and else the first refusal.
abbrev pub IsFinished : Trial → Result (List Step) PlanFault → Type 0
IsFinished t (Ok acts) = (t.refused ≡ None) × (acts ≡ t.acts)
IsFinished t (Err fault) = t.refused ≡ Some fault
