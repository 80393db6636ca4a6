use Rattle.plan_rules.proofs.LettingGo.{clears_whole_logs}
use Rattle.plan_rules.proofs.letting_go.law_log_cleared.Goals as goal

pub returns : goal.returns
returns c = clears_whole_logs
