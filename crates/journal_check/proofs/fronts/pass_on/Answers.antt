use Rattle.journal_check.proofs.Passing.{passed_undone}
use Rattle.journal_check.proofs.fronts.pass_on.Goals as goal

pub returns-clause-done : goal.returns-clause-done
returns-clause-done c =
    passed_undone c.args.script.now c.args.fronts.now c.args.number c.args.pass c.front_from.result c.requires.fronts c.requires.due c.front_from.ensures
