use Rattle.std.proofs.Common.{◌+◌, ◌*◌, arith, length, rules}
use Rattle.event_records.specs.dcd_base.proofs.Filling.{filled}
use Rattle.host_payloads.proofs.PageLaws.{page_fits, page_spelled}
use Rattle.host_payloads.proofs.pages.fill_page.Goals as goal

pub returns-clause-spelled : goal.returns-clause-spelled
returns-clause-spelled c =
    filled (16 + 40 * length c.args.extents.now) (search rules)
    (rw (c.put_extents.ensures.put, c.put_page_head.ensures) (page_spelled c.args.total c.args.generation c.args.extents.now))

pub returns-clause-fits : goal.returns-clause-fits
returns-clause-fits c = page_fits c.args.total c.args.generation c.args.extents.now (omega arith) (omega arith) c.requires.few c.put_extents.ensures.fit
