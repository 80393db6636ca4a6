use Rattle.ruled_cells.proofs.CallSteps.{laws_of, notes_at}
use Rattle.ruled_cells.proofs.calls.write.Goals as goal

pub mark-requires-clause-rule : goal.mark-requires-clause-rule
mark-requires-clause-rule g c =
    let m = c.requires.may in
    let laws = (laws_of g.F.Chief.reads g.S.Member.reads g.S.Member.enters g.S.Member.changes g.S.Member.stays g.S.Member.keeps g.S.Member.makes) in
    notes_at _ _ _ _ laws c.args.cells.now.row _ _ _ _ _ m.0 c.args.first.now g.N.NotedEntry.entry c.args.cells.now.sized.1 c.count.ensures c.args.seat.now.used m.1
