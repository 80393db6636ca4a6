use Rattle.script_text.proofs.PrintLaws.{starts_alone}
use Rattle.script_text.proofs.lines.write_mark.Goals as goal

pub returns : goal.returns
returns c = starts_alone (rw c.as_slice.ensures at c.in_ok-begin_fixed.ensures) c.in_ok-end_line.ensures
