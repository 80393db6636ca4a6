use Rattle.device_rules.proofs.LegalLogs.{legal_logs}
use Rattle.device_rules.proofs.laws.law_logs.Goals as goal

pub returns : goal.returns
returns c = legal_logs
