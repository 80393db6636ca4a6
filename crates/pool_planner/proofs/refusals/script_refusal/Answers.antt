use Rattle.std.{proofs.Common.◌≡◌, proofs.Common.◌∙◌, proofs.Common.subst, specs.Prelude.IfOk}
use Rattle.pool_planner.proofs.PlanLines.{all_gathered}
use Rattle.pool_planner.proofs.refusals.script_refusal.Goals as goal

pub returns-in-Ok : goal.returns-in-Ok
returns-in-Ok c =
    subst (λ bytes. IfOk c.copy.result (λ line. line ≡ bytes))
    (c.taken.ensures ∙ all_gathered _ _ (rw c.new-sink.ensures at c.in-Ok.ensures.whole)) c.copy.ensures
