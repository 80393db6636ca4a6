use Rattle.std.proofs.Common.{decimal}
use Rattle.text_lines.specs.Parts.{SaysNumber}
use Rattle.script_text.proofs.PrintedParts.{items_more, items_none}
use Rattle.script_text.proofs.lists.write_all_handles.Goals as goal

pub loop-handle-init : goal.loop-handle-init
loop-handle-init c = items_none (SaysNumber 65535) decimal c.args.out.now

pub loop-handle-preserved : goal.loop-handle-preserved
loop-handle-preserved c = items_more (SaysNumber 65535) decimal c.args.out.now c.loop-handle.out c.write_handle.new.out c.args.handles.now c.loop-handle.handle-index 0 c.loop-handle-test.true c.loop-handle.invariant c.in_ok-write_handle.ensures
