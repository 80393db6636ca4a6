use Rattle.std.proofs.{Common.◌+◌, Common.◌∙◌, Common.arith, Common.rules, Common.take, lemmas.List.length-set}
use Rattle.dcd_c.{specs.Lists.extent_told, proofs.Filling.put_behind, proofs.Filling.put_mapped}
use Rattle.dcd_c.proofs.lists.put_extents.Goals as goal

pub loop-i-preserved : goal.loop-i-preserved
loop-i-preserved c = record {
  put = put_mapped (extent_told c.args.offer) c.loop-i.room (take c.args.at c.args.room.now) c.args.extents.now (c.args.at + c.loop-i.i) _ c.loop-i.i _ _ (omega arith) (search rules) (search rules) c.loop-i.invariant.put c.extent_told.ensures;
  rest = put_behind c.loop-i.room c.args.room.now (c.args.at + c.loop-i.i) _ _ (omega arith) c.loop-i.invariant.rest;
  size = length-set _ _ _ ∙ c.loop-i.invariant.size;
}
