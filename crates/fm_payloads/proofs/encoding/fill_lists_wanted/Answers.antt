use Rattle.std.proofs.Common.{refl, rules}
use Rattle.dcd_base.proofs.Filling.{filled}
use Rattle.fm_payloads.proofs.encoding.fill_lists_wanted.Goals as goal

pub returns : goal.returns
returns c = filled 12 (search rules) (rw (c.put_u32-2.ensures.put, c.put_u32.ensures.put, c.put_zeros.ensures.put, c.put_u16.ensures.put) refl)
