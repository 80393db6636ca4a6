use Rattle.plan_rules.proofs.AlikePlans.{plan_fault_same, planned_same}
use Rattle.plan_rules.proofs.laws.law_same_plan.Goals as goal

pub returns-clause-list : goal.returns-clause-list
returns-clause-list _ = planned_same

pub returns-clause-fault : goal.returns-clause-fault
returns-clause-fault _ = plan_fault_same
