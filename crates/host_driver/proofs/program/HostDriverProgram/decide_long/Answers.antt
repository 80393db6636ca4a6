use Rattle.host_driver.proofs.Endings.{long_decides}
use Rattle.host_driver.proofs.program.HostDriverProgram.decide_long.Goals as goal

pub returns-clause-decides : goal.returns-clause-decides
returns-clause-decides c = long_decides c.args._task
