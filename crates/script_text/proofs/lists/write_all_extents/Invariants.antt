use Rattle.std.proofs.Common.{take}
use Rattle.text_lines.specs.{Parts.SaysExtent, Extents.extent_text}
use Rattle.script_text.specs.LinePrinting.{AddsItems}
use Rattle.script_text.proofs.lists.write_all_extents.Given as goal

abbrev pub invariant-loop-extent : goal.invariant-loop-extent
invariant-loop-extent l = AddsItems SaysExtent extent_text (take l.extent-index l.extents) l.fn.out l.out
