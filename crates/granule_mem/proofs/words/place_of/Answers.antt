use Rattle.std.proofs.Common.{rules}
use Rattle.granule_mem.proofs.Few.{none_more}
use Rattle.granule_mem.proofs.words.place_of.Goals as goal

pub loop-place-preserved : goal.loop-place-preserved
loop-place-preserved c = none_more c.args.few.now c.args.word c.loop-place.place (0, 0) (search rules) c.if-few-place.false c.loop-place.invariant
