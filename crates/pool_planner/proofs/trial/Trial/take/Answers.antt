use Rattle.std.{proofs.Common.length, proofs.Common.◌∙◌, specs.Prelude.option_map}
use Rattle.dcd_base.specs.Words.{◌or◌}
use Rattle.plan_rules.specs.declared.faults.PlanFault.{PlanFault}
use Rattle.pool_planner.proofs.Taking.{takes_one}
use Rattle.pool_planner.proofs.trial.Trial.take.Goals as goal

pub returns : goal.returns
returns c =
    let old = c.args.self.now in
    takes_one old (record { control = c.step-2.new.self; acts = c.push.new.self; refused = c.first_refusal-self.result }) c.args.step
    c.in_ok-step.ensures.config c.in_ok-step.ensures.entered
    c.in_ok-push.ensures.pushed
    (c.first_refusal-self.ensures ∙ (λ i. old.refused or option_map (PlanFault.Refused (length (c.as_slice.ensures i))) (c.in_ok-broken.ensures i)))
