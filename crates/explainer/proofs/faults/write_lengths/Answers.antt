use Rattle.std.specs.Prelude.{codes}
use Rattle.explainer.{specs.Faults.with_number, proofs.Puts.puts_then}
use Rattle.explainer.proofs.faults.write_lengths.Goals as goal

pub returns : goal.returns
returns c =
    puts_then c.args.out.now c.write_counted.new.out c.write_counted-2.new.out (with_number (codes "a header for ") c.args.field) (with_number (codes " bytes of payload before ") c.args.rest)
    (rw (c.as_slice.ensures, c.from.ensures) at c.in_ok-write_counted.ensures) (rw c.as_slice-2.ensures at c.in_ok-write_counted-2.ensures)
