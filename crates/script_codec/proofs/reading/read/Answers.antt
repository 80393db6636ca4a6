use Rattle.std.proofs.Common.{arith}
use Rattle.script_codec.proofs.WritingLaws.{read_reads, read_only, read_writable}
use Rattle.script_codec.proofs.reading.read.Goals as goal

pub returns-clause-reads : goal.returns-clause-reads
returns-clause-reads c = read_reads c.args.bytes.now c.script_of.result (λ i. omega (arith, c.type_inv.bytes i)) c.script_of.ensures.cases

pub returns-clause-only : goal.returns-clause-only
returns-clause-only c = read_only c.args.bytes.now c.script_of.result c.script_of.ensures.cases

pub returns-clause-writable : goal.returns-clause-writable
returns-clause-writable c = read_writable c.args.bytes.now c.script_of.result (λ i. omega (arith, c.type_inv.bytes i)) c.script_of.ensures.cases
