-- What is printed of a plan, and of none.
use Rattle.std.specs.Prelude.{ℕ, ◌^◌, ◌<◌, List, [], ◌∷◌, ◌++◌, length, flat_map, codes, decimal, IsTrue}
use Rattle.hex.specs.Hex.{encode_lower}
use Rattle.cci_codec.specs.Messages.{request_bytes}
use Rattle.region_config.specs.Configurations.{Configuration}
use Rattle.journal_core.specs.{Entries.effects, Entries.fits, declared.acts.Act.Act, declared.entries.Entry.Entry}
use Rattle.report.specs.Texts.{actor_name, line_of, state_lines}
use Rattle.plan_rules.specs.{declared.demand_faults.DemandFault.DemandFault, Holding.Step, Holding.stepped, declared.faults.PlanFault.PlanFault}

-- ---- what a list has

-- a message tells the length of its payload in 21 bits
abbrev pub IsShortAct : Act → Type 0
IsShortAct (Act.Command q) = length q.payload < 2 ^ 21
IsShortAct act = Unit {0}

-- The actor may do it on a device of so many hosts, and its message can be written.
pub record IsSoundStep (hosts : ℕ) (s : Step) : Type 0 where
  pub fitting : IsTrue (fits hosts s.0 s.1)
  pub short : IsShortAct s.1

-- ---- the list, and the state behind it

-- the message, or the number of a turn of the sanitizer
abbrev pub act_words : Act → List (List ℕ)
act_words (Act.Command q) = encode_lower (request_bytes q) ∷ []
act_words (Act.Scrub n) = decimal n ∷ []
act_words (Act.Load d) = []
act_words (Act.Store d value) = []

unfoldable pub plan_line : Step → List ℕ
plan_line s = line_of (actor_name s.0 ∷ act_words s.1)

unfoldable pub plan_lines : List Step → List ℕ
plan_lines acts = flat_map plan_line acts

abbrev pub plan_state : Configuration → List Entry → List ℕ
plan_state c journal = state_lines c (effects journal) (length journal)

abbrev pub plan_text : Configuration → List Entry → List Step → List ℕ
plan_text c journal acts = plan_lines acts ++ plan_state c (stepped c journal acts)

-- ---- where there is none

abbrev pub demand_fault_number : DemandFault → ℕ
demand_fault_number DemandFault.NotJson = 1
demand_fault_number DemandFault.BadShape = 2
demand_fault_number DemandFault.NoMemory = 0

unfoldable pub demands_refused : DemandFault → List ℕ
demands_refused fault = line_of (codes "demands" ∷ codes "refused:" ∷ decimal (demand_fault_number fault) ∷ [])

unfoldable pub plan_refused : ℕ → List ℕ
plan_refused number = line_of (codes "plan" ∷ codes "refused:" ∷ decimal number ∷ [])

unfoldable pub plan_short : ℕ → ℕ → ℕ → List ℕ
plan_short region need have = line_of (codes "short" ∷ decimal region ∷ codes "need" ∷ decimal need ∷ codes "have" ∷ decimal have ∷ [])

-- what is short is told in a line of its own
abbrev pub plan_fault_line : PlanFault → List ℕ
plan_fault_line (PlanFault.BadDemand i) = plan_refused 1
plan_fault_line (PlanFault.BadDead i) = plan_refused 2
plan_fault_line (PlanFault.Open h) = plan_refused 3
plan_fault_line (PlanFault.Short r need have) = plan_short r need have
plan_fault_line (PlanFault.Refused i rule) = plan_refused 5
plan_fault_line PlanFault.NoMemory = plan_refused 0

unfoldable pub planner_usage_line : List ℕ
planner_usage_line = line_of (codes "usage:" ∷ codes "pool_planner" ∷ [])
