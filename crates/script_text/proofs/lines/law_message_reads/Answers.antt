use Rattle.cci_codec.{specs.Messages.request_bytes, proofs.Reading.request_spelled}
use Rattle.script_text.proofs.lines.law_message_reads.Goals as goal

pub returns : goal.returns
returns c = request_spelled c.args.message.now (request_bytes c.args.message.now) c.law_request_is_spelled.ensures
