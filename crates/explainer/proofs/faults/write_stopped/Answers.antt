use Rattle.std.specs.Prelude.{[], ◌∷◌, codes}
use Rattle.explainer.{specs.Faults.with_number, specs.Faults.stopped_line, proofs.Puts.puts_three}
use Rattle.explainer.proofs.faults.write_stopped.Goals as goal

pub returns : goal.returns
unfolding stopped_line
returns c =
    puts_three c.args.out.now c.write_counted.new.out c.extend_from_slice.new.self c.push.new.self
    (with_number (codes "stopped at line ") c.args.line) (codes ": no run of this script prints it") (10 ∷ [])
    (rw (c.as_slice.ensures, c.from.ensures) at c.in_ok-write_counted.ensures) (rw c.as_slice-2.ensures at c.in_ok-extend_from_slice.ensures.extended) c.in_ok-push.ensures.pushed
