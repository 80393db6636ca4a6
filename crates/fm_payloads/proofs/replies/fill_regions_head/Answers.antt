use Rattle.std.proofs.Common.{refl, rules}
use Rattle.dcd_base.proofs.Filling.{filled}
use Rattle.fm_payloads.specs.ManagerPayloads.{regions_head}
use Rattle.fm_payloads.proofs.replies.fill_regions_head.Goals as goal

pub returns : goal.returns
unfolding regions_head
returns c = filled 8 (search rules) (rw (c.put_zeros.ensures.put, c.put_u8-2.ensures.put, c.put_u8.ensures.put, c.put_u16.ensures.put) refl)
