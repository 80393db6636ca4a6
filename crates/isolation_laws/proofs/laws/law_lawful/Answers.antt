use Rattle.isolation_laws.proofs.LawfulItems.{are_lawful}
use Rattle.isolation_laws.proofs.laws.law_lawful.Goals as goal

pub returns : goal.returns
returns c = are_lawful
