use Rattle.std.proofs.Common.{arith}
use Rattle.ruled_cells.proofs.WholeSteps.{takes_shard}
use Rattle.ruled_cells.proofs.cells.Cells.take.Goals as goal

pub take-kept-requires-clause-rule : goal.take-kept-requires-clause-rule
take-kept-requires-clause-rule g c = takes_shard _ _ _ _ _ _ _ c.args.seat.now.used (omega arith)
