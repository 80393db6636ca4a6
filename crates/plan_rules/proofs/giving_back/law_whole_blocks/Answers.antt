use Rattle.plan_rules.proofs.GivingBack.{made_of_blocks}
use Rattle.plan_rules.proofs.giving_back.law_whole_blocks.Goals as goal

pub returns : goal.returns
returns c = made_of_blocks
