use Rattle.std.proofs.Common.{arith}
use Rattle.cci_codec.proofs.Reading.{request_writes}
use Rattle.cci_codec.proofs.laws.law_request_is_spelled.Goals as goal

pub returns : goal.returns
returns c = request_writes c.args.request.now (omega arith) (omega arith) c.requires (rw (← c.as_slice.ensures) c.are_bytes.ensures)
