use Rattle.std.proofs.Common.{[]}
use Rattle.text_lines.specs.{Parts.SaysExtent, Extents.extent_text}
use Rattle.script_text.proofs.PrintedParts.{items_more, items_none, untagged_at}
use Rattle.script_text.proofs.lists.write_all_extents.Goals as goal

pub loop-extent-init : goal.loop-extent-init
loop-extent-init c = items_none SaysExtent extent_text c.args.out.now

pub write_extent_word-requires : goal.write_extent_word-requires
write_extent_word-requires c = untagged_at c.args.extents.now c.loop-extent.extent-index _ c.loop-extent-test.true c.requires

pub loop-extent-preserved : goal.loop-extent-preserved
loop-extent-preserved c =
    items_more SaysExtent extent_text c.args.out.now c.loop-extent.out c.write_extent_word.new.out c.args.extents.now c.loop-extent.extent-index
    (record { start = 0; length = 0; tag = record { 0 = [] }; sequence = 0 }) c.loop-extent-test.true c.loop-extent.invariant c.in_ok-write_extent_word.ensures
