-- How a run of the planner ends: what is to be written, by its status.
use Rattle.std.specs.Prelude.{◌≡◌, ◌≢◌, ℕ, ◌<◌, ◌≤◌, List, [], length, Some, None, Ok, Err}
use Rattle.edge_io.specs.Meanings.{Meaning, asks_nothing}
use Rattle.region_config.specs.Configurations.{Configuration}
use Rattle.journal_core.specs.{Entries.effects, declared.entries.Entry.Entry}
use Rattle.device_plain.specs.device_rules.specs.Legal.{Legal}
use Rattle.report.specs.{Refusals.refusal_line, script_codec.specs.Covering.Runs, script_codec.specs.Frames.needed, script_codec.specs.Frames.script_part, script_codec.specs.Frames.text_part}
use Rattle.report.specs.script_codec.specs.{Reading.first_fault, Scripts.ReadsScript, declared.faults.ScriptFault.ScriptFault, declared.scripts.Script.Script}
use Rattle.plan_rules.specs.{DemandTexts.IsReadAsDemands, Holding.stepped, Listing.planned, Meeting.MeetsDemands, Planning.AllSucceed, Planning.plan_fault}
use Rattle.plan_rules.specs.declared.{demand_faults.DemandFault.DemandFault, demands.Demands.Demands}
use Rattle.pool_planner.specs.{PlanPrinting.demands_refused, PlanPrinting.plan_fault_line, PlanPrinting.plan_text, PlanPrinting.planner_usage_line, PlanStatuses.plan_end}
use Rattle.pool_planner.specs.declared.status.PlanStatus.{PlanStatus}

-- ---- the frame: a script, and demands behind it

abbrev pub most_of_frame : ℕ
most_of_frame = 33554432

pub record IsPlanFrame (input : List ℕ) : Type 0 where
  pub few : length input ≤ most_of_frame
  pub whole : needed input ≤ length input

-- ---- what an input comes to

-- The journal is that of the lines of the script, done in their order.
pub record IsScriptJournal (s : Script) (journal : List Entry) : Type 0 where
  pub legal : Legal s.config journal
  pub runs : Runs s.config.hosts s.lanes 1 s.lines journal

-- There is a list for these demands behind this journal: each of its acts succeeds, it leaves what was demanded, and it is
-- printed, with the state behind it.
pub record IsPlanDone (c : Configuration) (journal : List Entry) (q : Demands) (printed : List ℕ) : Type 0 where
  pub faultless : plan_fault c journal q ≡ None
  pub succeeds : AllSucceed c journal (planned c journal q)
  pub meets : MeetsDemands c (effects journal) (effects (stepped c journal (planned c journal q))) q
  pub is : printed ≡ plan_text c journal (planned c journal q)

-- The plan behind this journal ends so: there is a list, or a first fault.
abbrev pub IsPlannedEnd : Configuration → List Entry → Demands → PlanStatus → List ℕ → Type 0
IsPlannedEnd c journal q PlanStatus.Done printed = IsPlanDone c journal q printed
IsPlannedEnd c journal q (PlanStatus.Plan fault) printed = (plan_fault c journal q ≡ Some fault) × (printed ≡ plan_fault_line fault)
IsPlannedEnd c journal q status printed = ⊥

-- The plan for these demands behind the script ends so.
pub record IsDemandsEnd (s : Script) (q : Demands) (status : PlanStatus) (printed : List ℕ) : Type 0 where
  pub journal : List Entry
  pub runs : IsScriptJournal s journal
  pub ends : IsPlannedEnd s.config journal q status printed

-- These bytes state demands, and this is how it ends for them.
abbrev pub IsDemandedEnd : Script → List ℕ → PlanStatus → List ℕ → Type 0
IsDemandedEnd s rest status printed = (q : Demands) × IsReadAsDemands rest (Ok q) × IsDemandsEnd s q status printed

-- These bytes state no demands, for this fault.
pub record HasNoDemands (rest : List ℕ) (fault : DemandFault) (printed : List ℕ) : Type 0 where
  pub known : fault ≢ DemandFault.NoMemory
  pub states : IsReadAsDemands rest (Err fault)
  pub is : printed ≡ demands_refused fault

abbrev pub IsScriptEnd : Script → List ℕ → PlanStatus → List ℕ → Type 0
IsScriptEnd s rest PlanStatus.Done printed = IsDemandedEnd s rest PlanStatus.Done printed
IsScriptEnd s rest (PlanStatus.Plan fault) printed = IsDemandedEnd s rest (PlanStatus.Plan fault) printed
IsScriptEnd s rest (PlanStatus.Demands fault) printed = HasNoDemands rest fault printed
IsScriptEnd s rest status printed = ⊥

-- The input is a frame whose script is read, whatever its reserved bits, and this is how it ends behind it.
pub record IsFrameEnd (input : List ℕ) (status : PlanStatus) (printed : List ℕ) : Type 0 where
  pub frame : IsPlanFrame input
  pub script : Script
  pub reads : ReadsScript (script_part input) script
  pub ends : IsScriptEnd script (text_part input) status printed

-- The input is a frame whose script has this fault first.
pub record HasNoScript (input : List ℕ) (fault : ScriptFault) (printed : List ℕ) : Type 0 where
  pub frame : IsPlanFrame input
  pub faulty : first_fault (script_part input) ≡ Some fault
  pub is : printed ≡ refusal_line fault

-- It has fewer bytes than it needs.
pub record IsShortPlanFrame (input : List ℕ) (need have : ℕ) (printed : List ℕ) : Type 0 where
  pub few : length input ≤ most_of_frame
  pub need_is : need ≡ needed input
  pub have_is : have ≡ length input
  pub fewer : have < need
  pub is : printed ≡ []

-- A run over this input is to end so, and to write this.
abbrev pub IsPlanEnd : List ℕ → PlanStatus → List ℕ → Type 0
IsPlanEnd input PlanStatus.Done printed = IsFrameEnd input PlanStatus.Done printed
IsPlanEnd input (PlanStatus.Plan fault) printed = IsFrameEnd input (PlanStatus.Plan fault) printed
IsPlanEnd input (PlanStatus.Demands fault) printed = IsFrameEnd input (PlanStatus.Demands fault) printed
IsPlanEnd input (PlanStatus.ScriptRefused fault) printed = HasNoScript input fault printed
IsPlanEnd input (PlanStatus.InputShort need have) printed = IsShortPlanFrame input need have printed
IsPlanEnd input PlanStatus.InputLong printed = (most_of_frame < length input) × (printed ≡ [])
IsPlanEnd input status printed = ⊥

-- Nothing is wrong with the input: it is a frame of a script and of demands for which there is a list.
pub record IsSoundInput (input : List ℕ) : Type 0 where
  pub frame : IsPlanFrame input
  pub script : Script
  pub reads_as : ReadsScript (script_part input) script
  pub q : Demands
  pub states : IsReadAsDemands (text_part input) (Ok q)
  pub planned : (journal : List Entry) → IsScriptJournal script journal → plan_fault script.config journal q ≡ None

-- The program. It takes no words.
abbrev pub planner : Meaning (Unit {0}) PlanStatus
planner = record {
  asks = asks_nothing;
  usage = planner_usage_line;
  most = λ task. Some most_of_frame;
  plan = λ task. IsPlanEnd;
  sound = λ task. IsSoundInput;
  end = plan_end;
}
