use Rattle.std.proofs.Common.{arith}
use Rattle.dcd_c.proofs.lists.record_count.Goals as goal

pub returns-clause-few : goal.returns-clause-few
returns-clause-few c = omega (arith, c.len.ensures.len, c.len.ensures.log.within, c.len.ensures.log.most)
