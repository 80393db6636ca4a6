use Rattle.std.proofs.Common.{◌∙◌}
use Rattle.granule_map.proofs.Kept.{one_replaced}
use Rattle.granule_map.proofs.map.GranuleMap.set.Goals as goal

pub returns-clause-states : goal.returns-clause-states
returns-clause-states c = c.replace_run-replaced.ensures.states ∙ one_replaced c.args.self.now.states c.args.granule c.args.state c.requires.within
