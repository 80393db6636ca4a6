use Rattle.device_rules.proofs.GranuleCommands.{granules_kept}
use Rattle.device_rules.proofs.granules.law_granule_table.Goals as goal

pub returns : goal.returns
returns c = granules_kept
