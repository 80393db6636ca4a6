use Rattle.edge_io.proofs.Inputs.{more_is, settles_long}
use Rattle.edge_io.proofs.deciding.settle.Goals as goal

pub returns-in-Err-TooLong-clause-settles : goal.returns-in-Err-TooLong-clause-settles
returns-in-Err-TooLong-clause-settles g c =
    let left = g.S.Source.left c.args.source.now in
    let now = g.S.Source.left c.read_all.new.source in
    let reads = g.S.Source.faults c.args.source.now in
    let count = g.S.Source.faults c.read_all.new.source in
    let most = c.in-Some.most in
    settles_long (g.P.Program.means c.args.program.now) g.P.Program.bytes c.args.task left now reads count most c.in-Some.ensures.is
    (more_is most left now reads count c.in-Err-TooLong.field-0 c.in-Err-TooLong.field-0-is c.in-Err-TooLong.ensures.ends)
    c.decide_long.result c.or_stop-in-Err-TooLong.result c.or_stop-in-Err-TooLong.ensures c.decide_long.ensures.decides
