use Rattle.plan_rules.proofs.AllActs.{plan_meets}
use Rattle.plan_rules.proofs.meets.law_meets.Goals as goal

pub returns : goal.returns
returns _ = plan_meets
