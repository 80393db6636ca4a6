use Rattle.std.proofs.Common.{◌∙◌, ◌++◌, append_assoc}
use Rattle.dcd_base.specs.Layouts.{u16_bytes, u32_bytes, u64_bytes, u8_bytes}
use Rattle.fm_payloads.specs.ManagerPayloads.{placed_head}
use Rattle.fm_payloads.proofs.placing.put_placed_head.Goals as goal

pub returns-clause-bytes : goal.returns-clause-bytes
unfolding placed_head
returns-clause-bytes c =
    let a = c.args in
    c.put_u32.ensures.put
    ∙ rw (c.put_tag.ensures.put, c.put_u64.ensures.put, c.put_u8-2.ensures.put, c.put_u8.ensures.put, c.put_u16.ensures.put)
    (append_assoc (((u16_bytes a.host ++ u8_bytes a.choice) ++ u8_bytes a.region) ++ u64_bytes a.size) a.tag.now.0 (u32_bytes a.count))
