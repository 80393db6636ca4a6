use Rattle.isolation_laws.{specs.Solo.block_item, proofs.ItemLists.filtered_more}
use Rattle.isolation_laws.proofs.deliveries.append_blocks.Goals as goal

pub loop-i-preserved : goal.loop-i-preserved
loop-i-preserved c =
    filtered_more block_item c.args.effects.now c.loop-i.i c.index-effects-i.result c.args.items.now c.loop-i.items c.append_block.new.items
    c.loop-i-test.true c.index-effects-i.is c.loop-i.invariant c.in_ok-append_block.ensures
