use Rattle.std.specs.Prelude.{[], ◌∷◌, codes}
use Rattle.explainer.{specs.Faults.with_number, specs.Faults.cut_line, proofs.Puts.puts_three}
use Rattle.explainer.proofs.faults.write_cut.Goals as goal

pub returns : goal.returns
unfolding cut_line
returns c =
    puts_three c.args.out.now c.write_counted.new.out c.write_counted-2.new.out c.push.new.self
    (with_number (codes "frame refused: it needs ") c.args.need) (with_number (codes " bytes and has ") c.args.have) (10 ∷ [])
    (rw c.as_slice.ensures at c.in_ok-write_counted.ensures) (rw c.as_slice-2.ensures at c.in_ok-write_counted-2.ensures) c.in_ok-push.ensures.pushed
