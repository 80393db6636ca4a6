use Rattle.event_records.{proofs.Records.record_spelled, specs.Records.record_bytes}
use Rattle.event_records.proofs.laws.decoded_again.Goals as goal

pub returns : goal.returns
returns c =
    c.decode.ensures.only c.args.event.now (rw c.encode.ensures (record_spelled c.args.event.now (record_bytes c.args.event.now) c.law_event_is_spelled.ensures))
