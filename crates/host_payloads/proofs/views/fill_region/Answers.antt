use Rattle.std.proofs.Common.{refl, rules}
use Rattle.event_records.specs.dcd_base.proofs.Filling.{filled}
use Rattle.host_payloads.specs.HostPayloads.{region_bytes}
use Rattle.host_payloads.proofs.views.fill_region.Goals as goal

pub returns : goal.returns
unfolding region_bytes
returns c =
    filled 40 (search rules)
    (rw (c.put_zeros.ensures.put, c.put_u8.ensures.put, c.put_u32.ensures.put, c.put_u64-4.ensures.put, c.put_u64-3.ensures.put, c.put_u64-2.ensures.put, c.put_u64.ensures.put) refl)
