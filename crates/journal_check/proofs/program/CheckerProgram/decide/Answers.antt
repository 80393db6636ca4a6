use Rattle.journal_check.proofs.CheckEndings.{all_decide}
use Rattle.journal_check.proofs.program.CheckerProgram.decide.Goals as goal

pub returns-clause-decides : goal.returns-clause-decides
returns-clause-decides c = all_decide c.args.input c.as_slice.result.now c.as_slice.ensures c.check_input.result c.check_input.ensures.decides
