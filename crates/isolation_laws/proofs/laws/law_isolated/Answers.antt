use Rattle.isolation_laws.proofs.{CleanJournals.legal_clean, Isolation.isolated_by}
use Rattle.isolation_laws.proofs.laws.law_isolated.Goals as goal

pub returns : goal.returns
returns start c sound = isolated_by c sound (legal_clean c sound)
