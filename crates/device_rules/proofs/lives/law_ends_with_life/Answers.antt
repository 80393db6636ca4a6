use Rattle.device_rules.proofs.EndSteps.{ends_with_life}
use Rattle.device_rules.proofs.lives.law_ends_with_life.Goals as goal

pub returns : goal.returns
returns c = ends_with_life
