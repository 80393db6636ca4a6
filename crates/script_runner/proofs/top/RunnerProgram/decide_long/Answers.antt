use Rattle.script_runner.proofs.Decisions.{long_decides}
use Rattle.script_runner.proofs.top.RunnerProgram.decide_long.Goals as goal

pub returns-clause-decides : goal.returns-clause-decides
returns-clause-decides g c = long_decides c.args._task
