use Rattle.isolation_laws.proofs.AllSee.{all_see_alone}
use Rattle.isolation_laws.proofs.laws.law_view.Goals as goal

pub returns : goal.returns
returns c = all_see_alone
