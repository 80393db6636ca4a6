use Rattle.plan_rules.proofs.LettingGo.{lets_offers_go}
use Rattle.plan_rules.proofs.letting_go.law_offer_let_go.Goals as goal

pub returns : goal.returns
returns c = lets_offers_go
