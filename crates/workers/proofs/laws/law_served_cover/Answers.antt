use Rattle.workers.proofs.ServedLaws.{served_cover}
use Rattle.workers.proofs.laws.law_served_cover.Goals as goal

pub returns : goal.returns
returns c = served_cover
