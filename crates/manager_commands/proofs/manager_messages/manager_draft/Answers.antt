use Rattle.std.proofs.Common.{subst, sym}
use Rattle.event_records.specs.dcd_base.specs.declared.steps.LogId.{LogId}
use Rattle.extent_list.specs.dcd_codes.specs.Rules.{ByRow}
use Rattle.fm_payloads.specs.declared.requests.FmRequest.{FmRequest}
use Rattle.journal_core.specs.Entries.{effects}
use Rattle.device_state.specs.device_rules.specs.Logs.{log_of}
use Rattle.manager_commands.specs.ManagerMessages.{DraftsFor, ManagerAnswers, outcome_after, rule_after}
use Rattle.manager_commands.proofs.manager_messages.manager_draft.Goals as goal

pub returns-in-GetEvents : goal.returns-in-GetEvents
returns-in-GetEvents c = λ journal legal kept.
    let cfg = c.args.config.now in
    subst (λ (q : FmRequest). ByRow (rule_after cfg journal q) (DraftsFor cfg journal q (outcome_after cfg journal q)) c.get_events.result) (sym c.in-GetEvents.is)
    (c.get_events.ensures LogId.Manager (log_of LogId.Manager (effects journal)) kept.manager_log)

pub returns-in-Add : goal.returns-in-Add
returns-in-Add c = subst (λ (q : FmRequest). ManagerAnswers c.args.config.now c.args.state.now q c.add.result) (sym c.in-Add.is) c.add.ensures

pub returns-in-Remove : goal.returns-in-Remove
returns-in-Remove c = subst (λ (q : FmRequest). ManagerAnswers c.args.config.now c.args.state.now q c.remove.result) (sym c.in-Remove.is) c.remove.ensures
