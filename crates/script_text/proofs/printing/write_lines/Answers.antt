use Rattle.std.proofs.Common.{subst}
use Rattle.script_text.{specs.LinePrinting.PrintsLine, proofs.PrintedScripts.script_lines_more}
use Rattle.script_text.proofs.printing.write_lines.Goals as goal

pub loop-line-preserved : goal.loop-line-preserved
loop-line-preserved c =
    script_lines_more c.args.frame c.args.out.now c.loop-line.out c.write_line.new.out c.args.lines.now c.loop-line.line-index c.line-item.result c.loop-line-test.true c.loop-line.invariant
    (subst (λ line. PrintsLine c.args.frame line c.loop-line.out c.write_line.new.out) c.line-item.is c.in_ok-write_line.ensures)
