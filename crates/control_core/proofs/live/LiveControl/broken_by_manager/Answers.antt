use Rattle.std.{proofs.Common.◌≡◌, proofs.Common.IfOk, proofs.Common.rules, proofs.Common.subst, specs.Result.result_err, specs.declared.result.Result.TheVariants.Ok}
use Rattle.fm_payloads.specs.ManagerPayloads.{manager_request}
use Rattle.manager_commands.specs.ManagerMessages.{DraftsFor, outcome_after}
use Rattle.device_commands.specs.device_rules.specs.Answers.{manager_result}
use Rattle.control_core.{specs.Pasts.ByEveryPast, specs.Pasts.IsPast, specs.Pasts.LiveControlled, proofs.DraftedRows.manager_row, proofs.Entering.by_every}
use Rattle.control_core.proofs.live.LiveControl.broken_by_manager.Goals as goal

pub returns-in-Ok : goal.returns-in-Ok
returns-in-Ok c =
    let cfg = c.self.inside.config in
    let q = c.args.request.now in
    let asked : manager_request q.opcode q.payload ≡ Ok c.in-Ok.asked = search rules in
    subst (λ (d : LiveControlled). IfOk c.rule_of.result (λ rule. ByEveryPast d (λ past. rule ≡ result_err (manager_result d.config past (manager_request q.opcode q.payload))))) c.self.view_is
    (by_every c.rule_of.result (λ past. IsPast cfg past c.self.inside.state) (λ past rule. rule ≡ result_err (manager_result cfg past (manager_request q.opcode q.payload)))
    (λ past leads.
    c.rule_of.ensures (result_err (manager_result cfg past (manager_request q.opcode q.payload)))
    (manager_row cfg past q c.in-Ok.asked (DraftsFor cfg past c.in-Ok.asked (outcome_after cfg past c.in-Ok.asked)) asked c.manager_draft.result (c.manager_draft.ensures past leads.legal leads.kept))))
