use Rattle.shared_device.proofs.Fresh.{may_open}
use Rattle.shared_device.proofs.making.fresh_cells.Goals as goal

pub make-requires-clause-contents : goal.make-requires-clause-contents
make-requires-clause-contents c =
    let f = c.in_ok-commands.ensures in
    may_open c.args.config.now _ _ f.config f.entries c.in_ok-row.ensures.each
