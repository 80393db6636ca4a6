use Rattle.std.proofs.Common.{◌+◌, ◌*◌, arith, length, rules}
use Rattle.dcd_base.proofs.{EventCommands.clear_fits, EventCommands.clear_spelled, Filling.filled}
use Rattle.dcd_base.proofs.event_commands.fill_clear.Goals as goal

pub returns-clause-spelled : goal.returns-clause-spelled
returns-clause-spelled c =
    filled (6 + 2 * length c.args.handles.now) (search rules)
    (rw (c.put_handles.ensures.put, c.put_zeros.ensures.put, c.put_u8-2.ensures.put, c.put_flag.ensures.put, c.put_u8.ensures.put)
    (clear_spelled c.args.log c.args.all c.args.handles.now))

pub returns-clause-fits : goal.returns-clause-fits
returns-clause-fits c = clear_fits c.args.log c.args.all c.args.handles.now (omega arith) c.requires.few c.put_handles.ensures.fit
