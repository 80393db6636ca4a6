use Rattle.plan_rules.proofs.FreeOffers.{offers_free_blocks}
use Rattle.plan_rules.proofs.taking.law_free_offered.Goals as goal

pub returns : goal.returns
returns c = offers_free_blocks
