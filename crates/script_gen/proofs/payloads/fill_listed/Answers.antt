use Rattle.std.proofs.Common.{refl, rules}
use Rattle.dcd_base.proofs.Filling.{filled}
use Rattle.script_gen.proofs.payloads.fill_listed.Goals as goal

pub returns : goal.returns
returns c = filled 32 (search rules) (rw (c.put_zeros-2.ensures.put, c.put_u64-2.ensures.put, c.put_u64.ensures.put, c.put_zeros.ensures.put, c.put_flag.ensures.put, c.put_u32.ensures.put) refl)
