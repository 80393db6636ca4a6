use Rattle.device_rules.proofs.ViewOthers.{view_of-other}
use Rattle.device_rules.proofs.laws.law_unseen.Goals as goal

pub returns : goal.returns
returns _ = λ c before h k e meets other actor. view_of-other c before h k other e meets actor
