use Rattle.pool_planner.proofs.PlanCompleted.{all_decide}
use Rattle.pool_planner.proofs.program.PlannerProgram.decide.Goals as goal

pub returns-clause-decides : goal.returns-clause-decides
returns-clause-decides c = all_decide c.args.input c.as_slice.result.now c.as_slice.ensures c.decide.result c.decide.ensures
