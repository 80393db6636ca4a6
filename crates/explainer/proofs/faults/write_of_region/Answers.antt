use Rattle.explainer.{specs.Faults.of_region, proofs.Puts.puts_then}
use Rattle.explainer.proofs.faults.write_of_region.Goals as goal

pub returns : goal.returns
returns c =
    puts_then c.args.out.now c.extend_from_slice.new.self c.write_counted.new.out c.args.text.now (of_region c.args.region)
    c.in_ok-extend_from_slice.ensures.extended (rw (c.as_slice.ensures, c.from.ensures) at c.in_ok-write_counted.ensures)
