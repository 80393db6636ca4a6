use Rattle.device_rules.proofs.OrderSteps.{tags_live}
use Rattle.device_rules.proofs.lives.law_tags_live.Goals as goal

pub returns : goal.returns
returns c = tags_live
