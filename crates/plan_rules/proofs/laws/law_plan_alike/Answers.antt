use Rattle.plan_rules.proofs.AlikeSteps.{alike_replayed, alike_stepped}
use Rattle.plan_rules.proofs.laws.law_plan_alike.Goals as goal

pub returns-clause-replayed : goal.returns-clause-replayed
returns-clause-replayed _ = alike_replayed

pub returns-clause-acts : goal.returns-clause-acts
returns-clause-acts _ = alike_stepped
