use Rattle.std.{proofs.Common.◌∷◌, proofs.Common.[], proofs.Common.List, proofs.Common.ap, proofs.Common.subst, specs.Prelude.OnOk}
use Rattle.plan_rules.specs.Holding.{Step}
use Rattle.pool_planner.specs.Trials.{TriesMore}
use Rattle.pool_planner.proofs.gaining.take_offer.Goals as goal

pub returns : goal.returns
returns c = subst (λ (more : List Step). OnOk c.take.result (TriesMore c.args.trial.now c.take.new.self more)) (ap (λ (s : Step). s ∷ []) c.in_ok-step.ensures) c.take.ensures
