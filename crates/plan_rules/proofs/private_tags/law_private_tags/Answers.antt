use Rattle.plan_rules.proofs.PrivateTags.{legal_private_tags}
use Rattle.plan_rules.proofs.private_tags.law_private_tags.Goals as goal

pub returns : goal.returns
returns c = legal_private_tags
