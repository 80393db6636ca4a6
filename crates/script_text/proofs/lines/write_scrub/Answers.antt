use Rattle.script_text.proofs.PrintLaws.{starts_then}
use Rattle.script_text.proofs.lines.write_scrub.Goals as goal

pub returns : goal.returns
returns c = starts_then (rw c.as_slice.ensures at c.in_ok-begin_fixed.ensures) c.in_ok-write_count.ensures c.in_ok-end_line.ensures
