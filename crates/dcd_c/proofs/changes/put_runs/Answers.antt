use Rattle.std.proofs.Common.{◌+◌, ◌++◌, ap, arith, drop, length, rules, sym, ◌∙◌}
use Rattle.std.proofs.lemmas.List.{length-append}
use Rattle.dcd_c.{specs.Changes.told_by, proofs.Filling.drop_on, proofs.RunSteps.runs_fit, proofs.RunSteps.runs_more, proofs.RunSteps.runs_none}
use Rattle.dcd_c.proofs.changes.put_runs.Goals as goal

pub put_told-at-requires : goal.put_told-at-requires
put_told-at-requires c =
    runs_fit c.args.config.now c.args.effects.now c.loop-i.i _ _ _ _ c.index-effects-i.is (search rules) c.loop-i.invariant.count (omega (arith, c.requires, c.loop-i.invariant.size))

pub loop-i-init : goal.loop-i-init
loop-i-init c = record {
  count = ap length (sym (runs_none c.args.config.now));
  put = sym (runs_none c.args.config.now);
  rest = search rules;
  size = search rules;
}

pub loop-i-preserved : goal.loop-i-preserved
loop-i-preserved c =
    let cfg = c.args.config.now in
    let is = c.index-effects-i.is in
    let more = runs_more cfg c.args.effects.now c.loop-i.i _ (search rules) in
    let next = c.put_told-at.ensures.next in
    record {
      count = next ∙ (λ j. c.loop-i.invariant.count j + length (told_by cfg (is j))) ∙ sym (length-append _ _) ∙ ap length (sym more);
      put = c.put_told-at.ensures.put ∙ (λ j. c.loop-i.invariant.put j ++ told_by cfg (is j)) ∙ sym more;
      rest = c.put_told-at.ensures.rest ∙ ap (λ k. drop k c.loop-i.room) next ∙ drop_on c.loop-i.room c.args.room.now c.loop-i.at _ c.loop-i.invariant.rest ∙ ap (λ k. drop k c.args.room.now) (sym next);
      size = c.put_told-at.ensures.size ∙ c.loop-i.invariant.size;
    }
