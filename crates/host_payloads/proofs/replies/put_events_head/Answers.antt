use Rattle.std.proofs.Common.{◌∙◌, refl}
use Rattle.host_payloads.specs.HostPayloads.{events_head}
use Rattle.host_payloads.proofs.replies.put_events_head.Goals as goal

pub returns : goal.returns
unfolding events_head
returns c =
    c.put_zeros-3.ensures.put
    ∙ rw (c.put_u16-2.ensures.put, c.put_zeros-2.ensures.put, c.put_u16.ensures.put, c.put_zeros.ensures.put, c.put_byte.ensures.put, c.event_flags.ensures) refl
