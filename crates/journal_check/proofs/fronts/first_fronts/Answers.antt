use Rattle.journal_check.proofs.Passing.{first_undone}
use Rattle.journal_check.proofs.fronts.first_fronts.Goals as goal

pub returns-clause-fresh : goal.returns-clause-fresh
returns-clause-fresh c = first_undone c.args.script.now c.loop-pass.fronts.items c.loop-pass.pass c.loop-pass.invariant
