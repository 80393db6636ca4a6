use Rattle.std.proofs.{Common.◌∷◌, Common.◌++◌, Common.[], Common.ap, Common.replicate, Common.subst, Common.◌∙◌, lemmas.List.replicate_more}
use Rattle.plan_rules.specs.{Holding.Step, Listing.refusal_step}
use Rattle.pool_planner.{specs.Trials.TriesMore, proofs.Taking.takes_then}
use Rattle.pool_planner.proofs.letting_go.refuse_offers.Goals as goal

pub loop-preserved : goal.loop-preserved
loop-preserved c =
    let n = c.loop.counter in
    let refusal = refusal_step c.args.host in
    subst (TriesMore c.args.trial.now c.take.new.self) (ap (λ (s : Step). replicate n refusal ++ s ∷ []) c.in_ok-refusal_step.ensures ∙ replicate_more n refusal)
    (takes_then c.loop.invariant c.in_ok-take.ensures)
