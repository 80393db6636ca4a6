use Rattle.std.proofs.Common.{◌<◌, arith, length}
use Rattle.extent_list.proofs.Cutting.{set_at}
use Rattle.extent_list.proofs.list.append_pieces.Goals as goal

pub returns-in-None-Some-clause-put : goal.returns-in-None-Some-clause-put
returns-in-None-Some-clause-put c =
    let within : c.args.index < length c.args.kept.now.items = omega (arith, c.requires.index) in
    rw (c.in-None-Some.is-0, c.in-None-Some.is-1) (set_at c.args.kept.now.items c.args.index c.in-None-Some.piece within)

pub returns-in-Some-None-clause-put : goal.returns-in-Some-None-clause-put
returns-in-Some-None-clause-put c =
    let within : c.args.index < length c.args.kept.now.items = omega (arith, c.requires.index) in
    rw (c.in-Some-None.is-0, c.in-Some-None.is-1) (set_at c.args.kept.now.items c.args.index c.in-Some-None.piece within)
