use Rattle.edge_io.proofs.Fronts.{taken_too}
use Rattle.std.proofs.{lemmas.List.length-take, Common.◌+◌, Common.arith}
use Rattle.edge_io.proofs.reading.read_all.Goals as goal

pub returns-then-is_err-clause-takes : goal.returns-then-is_err-clause-takes
returns-then-is_err-clause-takes g c =
    taken_too _ _ _ c.loop-buf.bytes c.read.new.buf c.in-Ok.n c.in-Ok.n (c.args.most + 1) c.loop-buf.invariant.given c.in-Ok.ensures.given (omega arith) (omega (arith, c.in-Ok.ensures.count, c.min-room.ensures, c.len-in-loop-buf.ensures, c.loop-buf.invariant.within, c.loop-buf-test.true, length-take c.min-room.result c.loop-buf.buf))
