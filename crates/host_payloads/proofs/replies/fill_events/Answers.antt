use Rattle.std.proofs.Common.{◌+◌, ◌*◌, length, rules}
use Rattle.event_records.specs.dcd_base.proofs.Filling.{filled}
use Rattle.host_payloads.proofs.Written.{events_spelled}
use Rattle.host_payloads.proofs.replies.fill_events.Goals as goal

pub returns : goal.returns
returns c =
    filled (32 + 128 * length c.args.events.now) (search rules)
    (rw (c.put_records.ensures, c.put_events_head.ensures) (events_spelled c.args.missed c.args.more c.args.events.now))
