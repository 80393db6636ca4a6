-- Which end each status is.
use Rattle.edge_io.specs.declared.ends.End.{End}
use Rattle.pool_planner.specs.declared.status.PlanStatus.{PlanStatus}

abbrev pub plan_end : PlanStatus → End
plan_end PlanStatus.Done = End.Done
plan_end PlanStatus.Usage = End.Usage
plan_end (PlanStatus.ScriptRefused fault) = End.Refused
plan_end PlanStatus.NoMemory = End.NoMemory
plan_end PlanStatus.ReadFault = End.ReadFault
plan_end PlanStatus.WriteFault = End.WriteFault
plan_end (PlanStatus.InputShort need have) = End.Refusal 7
plan_end PlanStatus.InputLong = End.Refusal 8
plan_end (PlanStatus.Demands fault) = End.Refusal 9
plan_end (PlanStatus.Plan fault) = End.Refusal 10
