use Rattle.tunnel_fabric.proofs.FabricEndings.{long_decided}
use Rattle.tunnel_fabric.proofs.program.TunnelsProgram.decide_long.Goals as goal

pub returns-clause-decides : goal.returns-clause-decides
returns-clause-decides c = long_decided c.refused.result c.refused.ensures
