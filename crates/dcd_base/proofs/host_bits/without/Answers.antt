use Rattle.dcd_base.proofs.HostBits.{and_not_host}
use Rattle.dcd_base.proofs.host_bits.without.Goals as goal

pub returns : goal.returns
returns c = rw (c.host.view_is) (and_not_host _ _ c.requires c.ranges.hosts.fits)
