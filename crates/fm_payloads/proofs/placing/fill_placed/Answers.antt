use Rattle.std.proofs.Common.{◌+◌, ◌*◌, arith, length, rules}
use Rattle.dcd_base.proofs.{Filling.filled, WholeExtents.extents_fit}
use Rattle.fm_payloads.proofs.ManagerWritten.{placed_spelled}
use Rattle.fm_payloads.proofs.placing.fill_placed.Goals as goal

pub returns-clause-spelled : goal.returns-clause-spelled
returns-clause-spelled c =
    filled (32 + 40 * length c.args.extents.now) (search rules)
    (rw (c.put_extents.ensures.put, c.put_placed_head.ensures.bytes) (placed_spelled c.args.host c.args.choice c.args.region c.args.size c.args.tag.now c.args.extents.now))

pub returns-clause-fits : goal.returns-clause-fits
returns-clause-fits c =
    (omega arith, (omega arith, (omega arith, (omega arith, (c.put_placed_head.ensures.fits, (c.requires.few, extents_fit c.args.extents.now c.put_extents.ensures.fit))))))
