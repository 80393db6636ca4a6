use Rattle.std.proofs.{Common.◌∙◌, Common.ap, Common.arith, Common.drop, Common.rules, Common.sym, lemmas.Grind.common_steps, lemmas.List.drop-drop}
use Rattle.dcd_base.proofs.extents.put_extents.Goals as goal

pub loop-extent-preserved : goal.loop-extent-preserved
loop-extent-preserved c = record {
  place = search rules;
  put = grind (arith, common_steps);
  rest = c.put_extent.ensures.rest ∙ sym (drop-drop 40 c.loop-extent.place _) ∙ ap (drop 40) c.loop-extent.invariant.rest ∙ drop-drop 40 c.loop-extent.place _;
  fit = grind (arith, common_steps);
}
