use Rattle.std.{proofs.Common.take, specs.Prelude.flat_map}
use Rattle.script_codec.specs.{Scripts.line_fields, Writing.AppendsLines}
use Rattle.script_codec.proofs.writing.write_lines.Given as goal

abbrev pub invariant-loop-line : goal.invariant-loop-line
invariant-loop-line l = AppendsLines l.fn.out l.out (flat_map line_fields (take l.line-index l.lines))
