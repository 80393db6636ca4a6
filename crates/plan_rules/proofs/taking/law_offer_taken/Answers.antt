use Rattle.plan_rules.proofs.WholeOffers.{takes_whole_offers}
use Rattle.plan_rules.proofs.taking.law_offer_taken.Goals as goal

pub returns : goal.returns
returns c = takes_whole_offers
