use Rattle.std.proofs.Common.{◌∙◌, refl}
use Rattle.event_records.specs.Records.{head_bytes}
use Rattle.event_records.proofs.writing.put_head.Goals as goal

pub returns : goal.returns
unfolding head_bytes
returns c =
    c.put_zeros-3.ensures.put
    ∙ rw (c.put_flag.ensures.put, c.put_u8-3.ensures.put, c.put_u16-2.ensures.put, c.put_byte.ensures.put, c.put_u8-2.ensures.put, c.put_zeros-2.ensures.put, c.put_u16.ensures.put, c.put_zeros.ensures.put, c.put_u8.ensures.put, c.put_identifier.ensures, c.kind_number.ensures) refl
