use Rattle.device_rules.proofs.ReferencedTags.{referenced_open}
use Rattle.device_rules.proofs.tags.law_referenced.Goals as goal

pub returns : goal.returns
returns _ = referenced_open
