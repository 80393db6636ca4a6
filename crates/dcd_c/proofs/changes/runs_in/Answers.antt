use Rattle.std.proofs.Common.{◌≡◌, ◌+◌, ap, arith, length, rules, subst, sym, ◌∙◌}
use Rattle.std.proofs.lemmas.List.{length-append}
use Rattle.dcd_c.{specs.Changes.told_by, proofs.RunSteps.runs_more, proofs.RunSteps.runs_none}
use Rattle.dcd_c.proofs.changes.runs_in.Goals as goal

pub loop-i-init : goal.loop-i-init
loop-i-init c = record {
  count = λ cfg. ap length (sym (runs_none cfg));
  within = omega arith;
}

pub loop-i-preserved : goal.loop-i-preserved
loop-i-preserved c = record {
  count = λ cfg.
      let one = subst (λ e. c.count_told-count.result ≡ length (told_by cfg e)) c.index-effects-i.is (c.count_told-count.ensures.count cfg) in
      (λ j. c.loop-i.invariant.count cfg j + one j) ∙ sym (length-append _ _) ∙ ap length (sym (runs_more cfg c.args.effects.now c.loop-i.i _ (search rules)));
  within = omega (arith, c.loop-i.invariant.within, c.count_told-count.ensures.few);
}
