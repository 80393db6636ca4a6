use Rattle.std.proofs.Common.{arith}
use Rattle.tunnel_fabric.proofs.FabricLaws.{fabric_only, fabric_reads}
use Rattle.tunnel_fabric.proofs.reading.read_fabric.Goals as goal

pub returns-clause-reads : goal.returns-clause-reads
returns-clause-reads c = fabric_reads c.args.bytes.now c.fabric_of.result (λ i. omega (arith, c.type_inv.bytes i)) c.fabric_of.ensures.cases

pub returns-clause-only : goal.returns-clause-only
returns-clause-only c = fabric_only c.args.bytes.now c.fabric_of.result c.fabric_of.ensures.cases
