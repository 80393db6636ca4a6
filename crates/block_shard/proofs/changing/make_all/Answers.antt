use Rattle.std.proofs.Common.{◌∷◌, [], subst}
use Rattle.dcd_base.specs.declared.media.Change.{Change}
use Rattle.shard_laws.specs.Changing.{AreMadeIn}
use Rattle.block_shard.proofs.MadeChanges.{made_more}
use Rattle.block_shard.proofs.changing.make_all.Goals as goal

pub loop-i-preserved : goal.loop-i-preserved
loop-i-preserved c =
    made_more c.args.index c.args.memory.now c.loop-i.memory c.make.new.memory c.args.changes.now c.loop-i.i c.index-changes-i.result c.loop-i-test.true c.loop-i.invariant
    (subst (λ (change : Change). AreMadeIn c.args.index c.loop-i.memory c.make.new.memory (change ∷ [])) c.index-changes-i.is c.make.ensures)
