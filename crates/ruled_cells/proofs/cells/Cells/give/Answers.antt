use Rattle.ruled_cells.proofs.CallSteps.{laws_of, gives_back}
use Rattle.ruled_cells.proofs.cells.Cells.give.Goals as goal

pub give-requires-clause-rule : goal.give-requires-clause-rule
give-requires-clause-rule g c =
    let m = c.requires.may in
    let laws = (laws_of g.F.Chief.reads g.S.Member.reads g.S.Member.enters g.S.Member.changes g.S.Member.stays g.S.Member.keeps g.S.Member.makes) in
    gives_back _ _ _ _ laws c.args.index _ _ _ _ m.0 c.args.value c.args.seat.now.used m.1 m.2
