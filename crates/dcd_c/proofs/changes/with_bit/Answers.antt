use Rattle.std.proofs.{Common.ap, Common.bit_or, lemmas.Nat.one_shl}
use Rattle.dcd_c.proofs.changes.with_bit.Goals as goal

pub returns : goal.returns
returns c = ap (λ n. bit_or c.args.bits n) (one_shl c.args.bit 32 c.requires)
