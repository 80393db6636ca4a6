use Rattle.plan_rules.proofs.GivingBack.{gives_last_bytes_back}
use Rattle.plan_rules.proofs.giving_back.law_given_back.Goals as goal

pub returns : goal.returns
returns c = gives_last_bytes_back
