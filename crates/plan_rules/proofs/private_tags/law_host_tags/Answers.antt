use Rattle.plan_rules.proofs.PrivateTags.{legal_keeps_tags}
use Rattle.plan_rules.proofs.private_tags.law_host_tags.Goals as goal

pub returns : goal.returns
returns c = λ config sound journal legal. (legal_keeps_tags config sound journal legal).few
