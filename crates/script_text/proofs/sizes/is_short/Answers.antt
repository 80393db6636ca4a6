use Rattle.std.proofs.Common.{sym}
use Rattle.script_text.proofs.ScriptSizes.{script_fits}
use Rattle.script_text.proofs.sizes.is_short.Goals as goal

pub returns : goal.returns
returns c = script_fits c.args.script.now c.size_of_head.result c.size_of_lines.result (sym c.size_of_head.ensures.value) c.size_of_head.ensures.small (rw c.as_slice.ensures at c.size_of_lines.ensures)
