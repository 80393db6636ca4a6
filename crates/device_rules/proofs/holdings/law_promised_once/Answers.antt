use Rattle.device_rules.proofs.ExclusiveHolding.{legal_holdings}
use Rattle.device_rules.proofs.holdings.law_promised_once.Goals as goal

pub returns : goal.returns
returns c = legal_holdings
