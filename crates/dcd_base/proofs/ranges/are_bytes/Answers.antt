use Rattle.std.proofs.Common.{arith}
use Rattle.dcd_base.proofs.Fields.{all_bytes}
use Rattle.dcd_base.proofs.ranges.are_bytes.Goals as goal

pub returns : goal.returns
returns c = all_bytes c.args.bytes.now (λ i. omega (arith, c.type_inv.bytes i))
