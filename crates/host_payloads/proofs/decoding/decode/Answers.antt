use Rattle.std.proofs.Common.{arith}
use Rattle.host_payloads.proofs.HostLaws.{asked_of, given_of}
use Rattle.host_payloads.proofs.decoding.decode.Goals as goal

pub returns-clause-found : goal.returns-clause-found
returns-clause-found c = asked_of c.args.opcode c.args.payload.now _ (λ i. omega (arith, c.type_inv.payload i)) c.request_of.ensures

pub returns-clause-only : goal.returns-clause-only
returns-clause-only c = given_of c.args.opcode c.args.payload.now _ c.request_of.ensures
