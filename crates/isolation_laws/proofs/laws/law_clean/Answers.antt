use Rattle.isolation_laws.proofs.CleanJournals.{legal_clean}
use Rattle.isolation_laws.proofs.laws.law_clean.Goals as goal

pub returns : goal.returns
returns c = legal_clean
