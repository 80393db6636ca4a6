use Rattle.std.proofs.Common.{◌∙◌, refl}
use Rattle.host_payloads.specs.HostPayloads.{page_head}
use Rattle.host_payloads.proofs.pages.put_page_head.Goals as goal

pub returns : goal.returns
unfolding page_head
returns c = c.put_zeros.ensures.put ∙ rw (c.put_u32-3.ensures.put, c.put_u32-2.ensures.put, c.put_u32.ensures.put) refl
