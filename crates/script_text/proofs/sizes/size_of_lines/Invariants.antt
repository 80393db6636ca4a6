use Rattle.std.{proofs.Common.◌≡◌, proofs.Common.length, proofs.Common.min, proofs.Common.take, specs.Prelude.flat_map}
use Rattle.dcd_base.specs.Layouts.{spelling}
use Rattle.text_lines.specs.script_codec.specs.Scripts.{line_fields}
use Rattle.script_text.proofs.sizes.size_of_lines.Given as goal

abbrev pub invariant-loop-line : goal.invariant-loop-line
invariant-loop-line l = l.size ≡ min (length (spelling (flat_map line_fields (take l.line-index l.lines)))) 18446744073709551615
