use Rattle.std.proofs.Common.{◌≡◌, ◌+◌, [], ◌∷◌, ◌++◌, take, sym, ap, subst, ◌∙◌}
use Rattle.std.proofs.lemmas.List.{take_more}
use Rattle.plan_rules.specs.Holding.{Step}
use Rattle.pool_planner.{specs.PlanRuns.IsBehindList, proofs.PlanRunning.one_more_step}
use Rattle.pool_planner.proofs.running.take_steps.Goals as goal

pub loop-step-preserved : goal.loop-step-preserved
loop-step-preserved c =
    let i = c.loop-step.step-index in
    let step : Step = c.step-item.result in
    let more : take (i + 1) c.args.acts.now ≡ take i c.args.acts.now ++ step ∷ [] =
    take_more c.args.acts.now i step c.loop-step-test.true ∙ ap (λ x. take i c.args.acts.now ++ x ∷ []) (sym c.step-item.is) in
    subst (λ acts. IsBehindList c.args.device.now c.take_step.new.device acts) (sym more)
    (one_more_step c.args.device.now c.loop-step.device c.take_step.new.device (take i c.args.acts.now) step c.loop-step.invariant c.in_ok-take_step.ensures)
