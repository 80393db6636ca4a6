use Rattle.std.{proofs.Common.List, proofs.Common.length, proofs.Common.subst, proofs.Common.sym, specs.declared.result.Result.Result, proofs.lemmas.Result.IfOk-weaker}
use Rattle.extent_list.specs.dcd_codes.specs.declared.refusals.Refusal.{Refusal}
use Rattle.device_commands.specs.{declared.draft.Draft.Draft, device_rules.specs.Answers.host_outcome, device_rules.specs.Views.view_after, device_rules.specs.Views.view_of}
use Rattle.manager_commands.specs.device_state.specs.{StateAfter.part_of, EnteredLists.Fits, EnteredLists.lists_of}
use Rattle.journal_core.specs.declared.outcome.Effect.{Effect}
use Rattle.control_core.proofs.{Decisions.decided_host, Decisions.host_known, Decisions.records_known, FitChanges.host_changes_fit, HostOutcomes.host_of, Shortness.short_host}
use Rattle.control_core.specs.{Doing.Does, Doing.Drafted, Fitting.PartFits, Recording.events_by, declared.decided.Decided.Decided}
use Rattle.control_core.proofs.host_steps.host_decided.Goals as goal

pub enacted-requires-clause-known : goal.enacted-requires-clause-known
enacted-requires-clause-known c =
    let cfg = c.args.config.now in
    let reached = c.requires.reached in
    let v = view_of cfg c.args.host reached.journal in
    let drafted = subst (λ (r : Result Draft Refusal). Drafted cfg c.args.state.now c.args.host c.args.request.now r) c.in-Ok.is c.requires.drafted in
    let it = drafted reached.journal reached.legal reached.kept in
    records_known (length c.args.state.now.hosts.items) (events_by (view_after cfg c.args.host v (host_outcome cfg c.args.host v it.request).changes)) c.in-Ok.draft.log_records (host_outcome cfg c.args.host v it.request).log_records it.drafts.log_records
    (host_known (length c.args.state.now.hosts.items) cfg c.args.host v it.request)

pub enacted-requires-clause-fits : goal.enacted-requires-clause-fits
enacted-requires-clause-fits c =
    let cfg = c.args.config.now in
    let s = c.args.state.now in
    let h = c.args.host in
    let reached = c.requires.reached in
    let drafted = subst (λ (r : Result Draft Refusal). Drafted cfg s h c.args.request.now r) c.in-Ok.is c.requires.drafted in
    let it = drafted reached.journal reached.legal reached.kept in
    subst (λ (es : List Effect). Fits cfg (lists_of s) 1 es) (sym it.drafts.changes) (host_changes_fit cfg s reached h c.requires.host it.request it.row)

pub returns-in-Ok : goal.returns-in-Ok
returns-in-Ok c =
    let cfg = c.args.config.now in
    let h = c.args.host in
    let sound = c.requires.reached.sound in
    let drafted = subst (λ (r : Result Draft Refusal). Drafted cfg c.args.state.now h c.args.request.now r) c.in-Ok.is c.requires.drafted in
    IfOk-weaker c.enacted.result (Does cfg c.args.state.now h c.args.request.now c.in-Ok.draft) _ (λ (d : Decided) does. λ before legal kept.
    let v = view_of cfg h before in
    let it = drafted before legal kept in
    decided_host cfg before h c.args.request.now it.request it.asked it.row d
    (does before (host_outcome cfg h v it.request) kept (host_of cfg sound before legal h c.requires.host it.request it.row) it.drafts)
    (short_host cfg h v (part_of c.args.state.now h) (kept.parts h c.requires.host) (subst PartFits c.part.ensures c.part_fits.ensures) sound.regions it.request))
    c.enacted.ensures
