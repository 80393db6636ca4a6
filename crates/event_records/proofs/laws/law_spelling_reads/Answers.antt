use Rattle.event_records.proofs.Records.{record_spelled}
use Rattle.event_records.proofs.laws.law_spelling_reads.Goals as goal

pub returns : goal.returns
returns c = record_spelled
