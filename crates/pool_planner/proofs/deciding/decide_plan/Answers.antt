use Rattle.std.{proofs.Common.◌≡◌, proofs.Common.Ok, proofs.Common.Err, proofs.Common.sym, proofs.Common.subst, proofs.Common.◌∙◌, proofs.Common.rules, specs.Prelude.IfOk}
use Rattle.journal_core.specs.Entries.{effects}
use Rattle.plan_rules.specs.{Holding.stepped, Meeting.MeetsDemands, PlanAlike.PlanAlike, Planning.IsPlan}
use Rattle.pool_planner.{specs.PlanPrinting.plan_text, proofs.PlanEndings.fault_end, proofs.PlanEndings.list_end, proofs.PlanRunning.commands_alike}
use Rattle.pool_planner.proofs.deciding.decide_plan.Goals as goal

pub returns-in-Ok : goal.returns-in-Ok
returns-in-Ok c =
    let k = c.args.device.now.config in
    let journal = c.args.device.now.journal in
    let entries = c.control-control.result.now.entries in
    let alike : PlanAlike entries journal = subst (λ es. PlanAlike es journal) (sym c.control-control.ensures.entries) (commands_alike k journal c.journal-journal.ensures.legal) in
    let config : c.first_config.result.now ≡ k = c.first_config.ensures ∙ c.control-control.ensures.config in
    list_end k entries journal c.args.demands.now alike c.in-Ok.acts
    (subst (λ x. IsPlan x entries c.args.demands.now (Ok c.in-Ok.acts)) config c.in-Ok.ensures.planned)
    (subst (λ x. MeetsDemands x (effects entries) (effects (stepped x entries c.in-Ok.acts)) c.args.demands.now) config c.in-Ok.ensures.meets) c.take_list.result c.take_list.ensures.status
    (subst (λ acts. IfOk c.take_list.result (λ e. e.1 ≡ plan_text k journal acts)) c.as_slice.ensures c.take_list.ensures.text)

pub returns-in_ok-plan_refusal-in-Err : goal.returns-in_ok-plan_refusal-in-Err
returns-in_ok-plan_refusal-in-Err c =
    let k = c.args.device.now.config in
    let journal = c.args.device.now.journal in
    let entries = c.control-control.result.now.entries in
    let alike : PlanAlike entries journal = subst (λ es. PlanAlike es journal) (sym c.control-control.ensures.entries) (commands_alike k journal c.journal-journal.ensures.legal) in
    let config : c.first_config.result.now ≡ k = c.first_config.ensures ∙ c.control-control.ensures.config in (
      fault_end k entries journal c.args.demands.now alike c.in-Err.fault (search rules)
          (subst (λ x. IsPlan x entries c.args.demands.now (Err c.in-Err.fault)) config c.in-Err.ensures.planned),
      c.in_ok-plan_refusal-in-Err.ensures,
    )
