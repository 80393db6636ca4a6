use Rattle.isolation_laws.proofs.{CleanJournals.legal_clean, Isolation.isolated_by, TwoWorlds.two_worlds_by}
use Rattle.isolation_laws.proofs.laws.law_two_worlds.Goals as goal

pub returns : goal.returns
returns start c sound = two_worlds_by c (isolated_by c sound (legal_clean c sound))
