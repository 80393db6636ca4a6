use Rattle.std.proofs.Common.{refl, rules}
use Rattle.event_records.specs.dcd_base.proofs.Filling.{filled}
use Rattle.host_payloads.specs.HostPayloads.{counts_bytes}
use Rattle.host_payloads.proofs.views.fill_counts.Goals as goal

pub returns : goal.returns
unfolding counts_bytes
returns c =
    filled 16 (search rules)
    (rw (c.put_u32-4.ensures.put, c.put_u32-3.ensures.put, c.put_u32-2.ensures.put, c.put_u32.ensures.put) refl)
