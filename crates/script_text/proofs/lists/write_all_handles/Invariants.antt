use Rattle.std.proofs.Common.{take, decimal}
use Rattle.text_lines.specs.Parts.{SaysNumber}
use Rattle.script_text.specs.LinePrinting.{AddsItems}
use Rattle.script_text.proofs.lists.write_all_handles.Given as goal

abbrev pub invariant-loop-handle : goal.invariant-loop-handle
invariant-loop-handle l = AddsItems (SaysNumber 65535) decimal (take l.handle-index l.handles) l.fn.out l.out
