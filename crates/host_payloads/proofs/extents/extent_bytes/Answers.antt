use Rattle.std.proofs.Common.{rules}
use Rattle.event_records.specs.dcd_base.proofs.Filling.{filled}
use Rattle.host_payloads.proofs.extents.extent_bytes.Goals as goal

pub returns-clause-bytes : goal.returns-clause-bytes
returns-clause-bytes c = filled 40 (search rules) c.put_extent.ensures.put
