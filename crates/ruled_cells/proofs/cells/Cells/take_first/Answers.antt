use Rattle.ruled_cells.proofs.{WholeSteps.takes_first, CallSteps.told_in_the_end}
use Rattle.ruled_cells.proofs.cells.Cells.take_first.Goals as goal

pub take-kept-requires-clause-rule : goal.take-kept-requires-clause-rule
take-kept-requires-clause-rule g c = takes_first _ _ _ _ _ _ c.args.seat.now.used

pub returns-clause-told : goal.returns-clause-told
returns-clause-told g c = told_in_the_end _ c.args.seat.now.token.me _ _ c.in-First.first c.in-First.is c.take-kept.ensures.taken
