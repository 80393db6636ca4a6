use Rattle.device_rules.proofs.StatusZeros.{status-scrub}
use Rattle.device_rules.proofs.laws.law_scrubbed.Goals as goal

pub returns : goal.returns
returns _ = λ c past n g. status-scrub c g past n
