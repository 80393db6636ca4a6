use Rattle.device_rules.proofs.InOrderResponses.{legal_allows, legal_succeeds}
use Rattle.device_rules.proofs.in_order.law_in_order.Goals as goal

pub returns-clause-allowed : goal.returns-clause-allowed
returns-clause-allowed c = legal_allows

pub returns-clause-succeeds : goal.returns-clause-succeeds
returns-clause-succeeds c = legal_succeeds
