use Rattle.std.{proofs.Common.[], proofs.Common.◌++◌, proofs.Common.rules, proofs.Common.append_assoc, proofs.Common.ap, proofs.Common.sym, proofs.Common.◌∙◌, specs.Slice.Iter.chunks_rest}
use Rattle.hex.specs.Hex.{encode_with}
use Rattle.report.proofs.Parts.{digits_more, prints_nothing}
use Rattle.report.proofs.printing.Printer.write_hex.Goals as goal

pub loop-part-init : goal.loop-part-init
unfolding encode_with
loop-part-init g c = record { size = search rules; done = []; parts = search rules; puts = prints_nothing _ _ _ }

pub loop-part-preserved : goal.loop-part-preserved
loop-part-preserved g c =
    let before = c.loop-part.invariant in
    let steps = c.in-Some.ensures.steps in
    record {
      size = steps.0 ∙ before.size;
      done = before.done ++ c.in-Some.part.now;
      parts = append_assoc before.done c.in-Some.part.now (chunks_rest c.next.new.self) ∙ ap (λ xs. before.done ++ xs) (sym steps.1.0) ∙ before.parts;
      puts = digits_more before.done c.in-Some.part.now before.puts c.write_digits.ensures;
    }
