use Rattle.std.proofs.{Common.◌+◌, Common.◌∙◌, Common.ap, Common.arith, Common.drop, Common.rules, Common.sym, Common.take, lemmas.List.length-set}
use Rattle.region_config.specs.Granules.{base_of}
use Rattle.dcd_c.proofs.Filling.{put_behind, put_numbered}
use Rattle.dcd_c.proofs.lists.put_bases.Goals as goal

pub loop-i-preserved : goal.loop-i-preserved
loop-i-preserved c = record {
  put = put_numbered (λ r. base_of c.args.config.now c.args.host r) c.loop-i.room (take c.args.at c.args.room.now) (c.args.at + c.from.result) _ c.loop-i.i _ (omega (arith, c.from.ensures)) (search rules)
      (ap (λ n. take (c.args.at + n) c.loop-i.room) c.from.ensures ∙ c.loop-i.invariant.put) c.base.ensures.value;
  rest = put_behind c.loop-i.room c.args.room.now (c.args.at + c.from.result) _ _ (omega (arith, c.from.ensures))
      (ap (λ n. drop (c.args.at + n) c.loop-i.room) c.from.ensures ∙ c.loop-i.invariant.rest ∙ ap (λ n. drop (c.args.at + n) c.args.room.now) (sym c.from.ensures));
  size = length-set _ _ _ ∙ c.loop-i.invariant.size;
}
