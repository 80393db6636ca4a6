use Rattle.ruled_cells.proofs.CallSteps.{gives_first_back}
use Rattle.ruled_cells.proofs.cells.Cells.give_first.Goals as goal

pub give-requires-clause-rule : goal.give-requires-clause-rule
give-requires-clause-rule g c = let m = c.requires.may in gives_first_back _ _ c.args.self.now.row _ _ _ _ m.0 c.args.value c.args.self.now.sized.1 c.args.seat.now.used m.1 m.2
