use Rattle.std.proofs.{Common.◌∙◌, Common.[], Common.ap, Common.arith, Common.drop, Common.rules, Common.sym, Common.take, lemmas.List.length-set}
use Rattle.dcd_c.{specs.Lists.region_told, proofs.Filling.put_behind, proofs.Filling.put_mapped}
use Rattle.dcd_c.proofs.lists.regions_of.Goals as goal

pub loop-i-preserved : goal.loop-i-preserved
loop-i-preserved c =
    let at = c.from-in-loop-i.result in
    let is = c.from-in-loop-i.ensures in
    record {
      put = put_mapped region_told c.loop-i.room [] c.config-config.result.now.regions at _ c.loop-i.i _ _ (omega (arith, is)) (search rules) (search rules)
          (ap (λ n. take n c.loop-i.room) is ∙ c.loop-i.invariant.put) (c.region_told.ensures ∙ ap region_told c.region.ensures.value);
      rest = put_behind c.loop-i.room c.args.room.now at _ _ (omega (arith, is))
          (ap (λ n. drop n c.loop-i.room) is ∙ c.loop-i.invariant.rest ∙ ap (λ n. drop n c.args.room.now) (sym is));
      size = length-set _ _ _ ∙ c.loop-i.invariant.size;
    }
