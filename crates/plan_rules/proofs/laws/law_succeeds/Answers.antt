use Rattle.plan_rules.proofs.Succeeding.{all_succeed}
use Rattle.plan_rules.proofs.laws.law_succeeds.Goals as goal

pub returns : goal.returns
returns _ = all_succeed
