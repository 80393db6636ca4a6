use Rattle.std.proofs.Common.{arith}
use Rattle.tunnel_fabric.proofs.FabricLaws.{fabric_of_fields, fabric_too_long}
use Rattle.tunnel_fabric.proofs.reading.fabric_of.Goals as goal

pub returns-then-bytes-gt-MOST_BYTES-clause-cases : goal.returns-then-bytes-gt-MOST_BYTES-clause-cases
returns-then-bytes-gt-MOST_BYTES-clause-cases c = λ real. fabric_too_long c.args.bytes.now (omega (arith, c.if-bytes-gt-MOST_BYTES.true))

pub returns-clause-cases : goal.returns-clause-cases
returns-clause-cases c = fabric_of_fields c.args.bytes.now c.fields_of.result (omega (arith, c.if-bytes-gt-MOST_BYTES.false)) c.fields_of.ensures.value
