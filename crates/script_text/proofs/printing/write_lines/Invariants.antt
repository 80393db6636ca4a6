use Rattle.std.proofs.Common.{take}
use Rattle.script_text.specs.Printing.{AddsScriptLines}
use Rattle.script_text.proofs.printing.write_lines.Given as goal

abbrev pub invariant-loop-line : goal.invariant-loop-line
invariant-loop-line l = AddsScriptLines l.frame l.fn.out l.out (take l.line-index l.lines)
