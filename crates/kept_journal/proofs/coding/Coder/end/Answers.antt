use Rattle.kept_journal.proofs.CoderSteps.{codes_end}
use Rattle.kept_journal.proofs.coding.Coder.end.Goals as goal

pub returns-clause-coded : goal.returns-clause-coded
returns-clause-coded c = codes_end _ _ _ c.requires c.push.ensures
