use Rattle.script_codec.proofs.Moves.{begins_own}
use Rattle.script_codec.proofs.own_reader.OwnReader.begin.Goals as goal

pub returns : goal.returns
returns c =
    begins_own c.args.bytes c.as_slice.result.now c.in_ok-head.head c.in_ok-head.place c.hosts-hosts.result c.as_slice.ensures c.hosts-hosts.ensures.value c.in_ok-head.ensures.begun
