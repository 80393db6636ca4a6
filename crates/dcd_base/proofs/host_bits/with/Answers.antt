use Rattle.dcd_base.proofs.HostBits.{or_host}
use Rattle.dcd_base.proofs.host_bits.with.Goals as goal

pub returns : goal.returns
returns c = rw (c.host.view_is) (or_host _ _ c.requires)
