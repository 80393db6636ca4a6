use Rattle.script_text.proofs.PrintLaws.{adds_then, starts_then}
use Rattle.script_text.proofs.lines.write_host_named.Goals as goal

pub returns : goal.returns
returns c = starts_then c.in_ok-begin_actor.ensures (adds_then c.in_ok-write_host_request.ensures c.in_ok-write_may_count.ensures) c.in_ok-end_line.ensures
