use Rattle.std.proofs.Common.{◌+◌, ◌*◌, length, rules}
use Rattle.dcd_base.proofs.Filling.{filled}
use Rattle.fm_payloads.proofs.ManagerWritten.{tags_spelled}
use Rattle.fm_payloads.proofs.replies.fill_tags.Goals as goal

pub returns : goal.returns
returns c =
    filled (16 + 24 * length c.args.tags.now) (search rules)
    (rw (c.put_tags.ensures, c.put_tags_head.ensures) (tags_spelled c.args.first c.args.total c.args.tags.now))
