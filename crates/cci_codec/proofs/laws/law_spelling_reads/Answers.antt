use Rattle.cci_codec.proofs.Reading.{request_spelled}
use Rattle.cci_codec.proofs.laws.law_spelling_reads.Goals as goal

pub returns : goal.returns
returns c = request_spelled
