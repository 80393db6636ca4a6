use Rattle.std.proofs.Common.{refl, rules}
use Rattle.dcd_base.proofs.Filling.{filled}
use Rattle.script_gen.proofs.payloads.fill_clearing.Goals as goal

pub returns : goal.returns
returns c = filled 8 (search rules) (rw (c.put_u16.ensures.put, c.put_zeros.ensures.put, c.put_u8-2.ensures.put, c.put_flag.ensures.put, c.put_u8.ensures.put) refl)
