use Rattle.std.proofs.Common.{◌∙◌, refl}
use Rattle.fm_payloads.specs.ManagerPayloads.{tags_head}
use Rattle.fm_payloads.proofs.replies.put_tags_head.Goals as goal

pub returns : goal.returns
unfolding tags_head
returns c = c.put_zeros.ensures.put ∙ rw (c.put_u32-3.ensures.put, c.put_u32-2.ensures.put, c.put_u32.ensures.put) refl
