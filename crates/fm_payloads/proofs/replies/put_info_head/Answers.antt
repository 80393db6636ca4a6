use Rattle.std.proofs.Common.{◌∙◌, refl}
use Rattle.fm_payloads.specs.ManagerPayloads.{info_head}
use Rattle.fm_payloads.proofs.replies.put_info_head.Goals as goal

pub returns : goal.returns
unfolding info_head
returns c = c.put_zeros-2.ensures.put ∙ rw (c.put_u32-3.ensures.put, c.put_u32-2.ensures.put, c.put_u32.ensures.put, c.put_zeros.ensures.put, c.put_u16-2.ensures.put, c.put_u16.ensures.put, c.put_u8-2.ensures.put, c.put_u8.ensures.put) refl
