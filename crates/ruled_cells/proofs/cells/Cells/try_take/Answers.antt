use Rattle.std.proofs.Common.{arith}
use Rattle.ruled_cells.proofs.WholeSteps.{takes_shard}
use Rattle.ruled_cells.proofs.cells.Cells.try_take.Goals as goal

pub try_take-tried-requires-clause-rule : goal.try_take-tried-requires-clause-rule
try_take-tried-requires-clause-rule g c = takes_shard _ _ _ _ _ _ _ c.args.seat.now.used (omega arith)
