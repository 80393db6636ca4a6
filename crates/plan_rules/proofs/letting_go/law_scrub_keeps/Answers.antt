use Rattle.plan_rules.proofs.LettingGo.{scrubs_keep}
use Rattle.plan_rules.proofs.letting_go.law_scrub_keeps.Goals as goal

pub returns : goal.returns
returns c = scrubs_keep
