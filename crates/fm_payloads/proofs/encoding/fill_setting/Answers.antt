use Rattle.std.proofs.Common.{refl, rules}
use Rattle.dcd_base.proofs.Filling.{filled}
use Rattle.fm_payloads.proofs.encoding.fill_setting.Goals as goal

pub returns : goal.returns
returns c = filled 16 (search rules) (rw (c.put_zeros-2.ensures.put, c.put_flag.ensures.put, c.put_u64.ensures.put, c.put_zeros.ensures.put, c.put_u8.ensures.put) refl)
