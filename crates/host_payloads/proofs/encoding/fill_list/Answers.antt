use Rattle.std.proofs.Common.{◌+◌, ◌*◌, length, rules}
use Rattle.event_records.specs.dcd_base.proofs.Filling.{filled}
use Rattle.host_payloads.proofs.Written.{list_fits, list_spelled}
use Rattle.host_payloads.proofs.encoding.fill_list.Goals as goal

pub returns-clause-spelled : goal.returns-clause-spelled
returns-clause-spelled c =
    filled (8 + 24 * length c.args.extents.now) (search rules)
    (rw (c.put_all_listed.ensures.put, c.put_list_head.ensures) (list_spelled c.args.more c.args.extents.now))

pub returns-clause-fits : goal.returns-clause-fits
returns-clause-fits c = list_fits c.args.more c.args.extents.now c.requires.few c.put_all_listed.ensures.fit
