use Rattle.std.proofs.Common.{◌+◌, ◌*◌, length, rules}
use Rattle.event_records.specs.dcd_base.proofs.Filling.{filled}
use Rattle.host_payloads.proofs.Written.{configuration_spelled}
use Rattle.host_payloads.proofs.replies.fill_configuration.Goals as goal

pub returns : goal.returns
returns c =
    filled (8 + 40 * length c.args.regions.now + 16) (search rules)
    (rw (c.put_counts.ensures, c.put_regions.ensures, c.put_configuration_head.ensures) (configuration_spelled c.args.total c.args.regions.now c.args.counts.now))
