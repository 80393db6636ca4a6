use Rattle.std.proofs.Common.{[]}
use Rattle.isolation_laws.{specs.Solo.told_by, proofs.ItemLists.filtered_more}
use Rattle.isolation_laws.proofs.deliveries.told_of.Goals as goal

pub loop-i-preserved : goal.loop-i-preserved
loop-i-preserved c =
    filtered_more (told_by c.args.host.now c.args.kind.now) c.args.effects.now c.loop-i.i c.index-effects-i.result [] c.loop-i.extents c.append_told.new.extents
    c.loop-i-test.true c.index-effects-i.is c.loop-i.invariant c.in_ok-append_told.ensures
