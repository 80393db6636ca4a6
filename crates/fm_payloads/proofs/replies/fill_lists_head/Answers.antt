use Rattle.std.proofs.Common.{refl, rules}
use Rattle.dcd_base.proofs.Filling.{filled}
use Rattle.fm_payloads.specs.ManagerPayloads.{lists_head}
use Rattle.fm_payloads.proofs.replies.fill_lists_head.Goals as goal

pub returns : goal.returns
unfolding lists_head
returns c = filled 24 (search rules) (rw (c.put_zeros-2.ensures.put, c.put_u32-4.ensures.put, c.put_u32-3.ensures.put, c.put_u32-2.ensures.put, c.put_u32.ensures.put, c.put_zeros.ensures.put, c.put_u16.ensures.put) refl)
