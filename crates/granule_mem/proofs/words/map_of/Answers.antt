use Rattle.std.proofs.Common.{rules}
use Rattle.granule_mem.proofs.Few.{puts_updated, same_more}
use Rattle.granule_mem.proofs.words.map_of.Goals as goal

pub loop-done-preserved : goal.loop-done-preserved
loop-done-preserved c =
    same_more c.args.few.now c.loop-done.map.entries c.insert.new.self.entries c.loop-done.done (0, 0) (search rules) c.loop-done.invariant
    (puts_updated c.loop-done.map.entries c.insert.new.self.entries _ _ c.in_ok-insert.ensures.updates.0)
