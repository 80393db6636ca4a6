use Rattle.script_text.proofs.PrintLaws.{adds_then, starts_then}
use Rattle.script_text.proofs.printing.write_second_start.Goals as goal

pub returns : goal.returns
returns c = starts_then c.in_ok-begin_with.ensures (adds_then (rw c.as_slice.ensures at c.in_ok-write_fixed.ensures) c.in_ok-write_named_count.ensures) c.in_ok-end_line.ensures
