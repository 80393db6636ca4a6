use Rattle.script_text.proofs.PrintLaws.{adds_then, starts_then}
use Rattle.script_text.proofs.lines.write_store.Goals as goal

pub returns : goal.returns
returns c =
    starts_then c.in_ok-begin_actor.ensures (adds_then (rw c.as_slice.ensures at c.in_ok-write_fixed.ensures) (adds_then c.in_ok-write_number.ensures c.in_ok-write_number-2.ensures))
    c.in_ok-end_line.ensures
