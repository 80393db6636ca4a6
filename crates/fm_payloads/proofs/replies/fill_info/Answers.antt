use Rattle.std.proofs.Common.{◌+◌, ◌*◌, length, rules}
use Rattle.dcd_base.proofs.Filling.{filled}
use Rattle.fm_payloads.proofs.ManagerWritten.{info_spelled}
use Rattle.fm_payloads.proofs.replies.fill_info.Goals as goal

pub returns : goal.returns
returns c =
    filled (24 + 8 * length c.args.sizes.now) (search rules)
    (rw (c.put_sizes.ensures, c.put_info_head.ensures) (info_spelled c.args.hosts c.args.granules c.args.free c.args.dirty c.args.sizes.now))
