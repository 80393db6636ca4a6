use Rattle.script_text.proofs.PrintLaws.{adds_then, starts_then}
use Rattle.script_text.proofs.lines.write_command_line.Goals as goal

pub returns : goal.returns
returns c = starts_then (rw c.as_slice.ensures at c.in_ok-begin_fixed.ensures) (adds_then c.in_ok-write_actor.ensures c.in_ok-write_message.ensures) c.in_ok-end_line.ensures
