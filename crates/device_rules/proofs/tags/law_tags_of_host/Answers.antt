use Rattle.device_rules.proofs.GivingSteps.{told-ended_list, told-removal}
use Rattle.device_rules.proofs.tags.law_tags_of_host.Goals as goal

pub returns-clause-list_ended : goal.returns-clause-list_ended
returns-clause-list_ended _ = told-ended_list

pub returns-clause-removal : goal.returns-clause-removal
returns-clause-removal _ = told-removal
