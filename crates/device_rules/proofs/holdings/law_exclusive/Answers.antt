use Rattle.device_rules.proofs.ExclusiveHolding.{legal_exclusive}
use Rattle.device_rules.proofs.holdings.law_exclusive.Goals as goal

pub returns : goal.returns
returns c = legal_exclusive
