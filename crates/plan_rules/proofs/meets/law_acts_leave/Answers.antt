use Rattle.plan_rules.proofs.AllActs.{acts_leave}
use Rattle.plan_rules.proofs.meets.law_acts_leave.Goals as goal

pub returns : goal.returns
returns _ = acts_leave
