use Rattle.control_core.proofs.ChangedHolders.{are_changes}
use Rattle.control_core.proofs.changing.changes_of.Goals as goal

pub returns-clause-changes : goal.returns-clause-changes
returns-clause-changes c = λ before kept. are_changes c.args.config.now before c.args.state.now c.args.effects.now c.in_ok-changes.changes c.in_ok-changes.ensures.put c.in_ok-changes.ensures.sound c.requires.one kept
