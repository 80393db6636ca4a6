use Rattle.std.proofs.{Common.◌≡◌, Common.◌∙◌, Common.IfSome, Common.List, Common.None, Common.subst, Common.sym, lemmas.Result.IfOk-weaker}
use Rattle.journal_core.specs.{Entries.effects, declared.outcome.Effect.Effect}
use Rattle.device_commands.specs.device_rules.specs.{Answers.manager_outcome, Views.view_of}
use Rattle.manager_commands.specs.device_state.specs.EnteredLists.{Fits, lists_of}
use Rattle.control_core.proofs.{FitChanges.manager_changes_fit, Managed.decided_manager, Managed.quiet_drafts, Managed.quiet_ended, Managed.quiet_hosts, Managed.quiet_log_records}
use Rattle.control_core.{proofs.ManagerOutcomes.OfHost, proofs.ManagerOutcomes.of_host, proofs.Shortness.short_manager, specs.Doing.Does, specs.Managing.EntersDraft, specs.Managing.changed_host}
use Rattle.control_core.specs.declared.decided.Decided.{Decided}
use Rattle.control_core.proofs.manager_steps.enacted_by.Goals as goal

pub enacted-requires-clause-host : goal.enacted-requires-clause-host
enacted-requires-clause-host c =
    let cfg = c.args.config.now in
    let reached = c.requires.reached in
    let it = c.requires.drafted reached.journal reached.legal reached.kept in
    (subst (λ o. IfSome o (OfHost cfg reached.journal c.args.state.now c.args.asked.now c.args.draft)) (sym c.changed_host.ensures ∙ c.in-Some.is)
    (of_host cfg reached.sound reached.journal reached.legal c.args.state.now reached.kept c.args.asked.now c.args.draft it.0 it.1)).is.host

pub enacted-requires-clause-known : goal.enacted-requires-clause-known
enacted-requires-clause-known c =
    let cfg = c.args.config.now in
    let reached = c.requires.reached in
    let it = c.requires.drafted reached.journal reached.legal reached.kept in
    (subst (λ o. IfSome o (OfHost cfg reached.journal c.args.state.now c.args.asked.now c.args.draft)) (sym c.changed_host.ensures ∙ c.in-Some.is)
    (of_host cfg reached.sound reached.journal reached.legal c.args.state.now reached.kept c.args.asked.now c.args.draft it.0 it.1)).known

pub enacted-requires-clause-fits : goal.enacted-requires-clause-fits
enacted-requires-clause-fits c =
    let cfg = c.args.config.now in
    let s = c.args.state.now in
    let reached = c.requires.reached in
    let it = c.requires.drafted reached.journal reached.legal reached.kept in
    let of = subst (λ o. IfSome o (OfHost cfg reached.journal s c.args.asked.now c.args.draft)) (sym c.changed_host.ensures ∙ c.in-Some.is)
    (of_host cfg reached.sound reached.journal reached.legal s reached.kept c.args.asked.now c.args.draft it.0 it.1) in
    subst (λ (es : List Effect). Fits cfg (lists_of s) 1 es) (sym of.drafts.changes) (manager_changes_fit cfg s reached c.args.asked.now it.0)

pub returns-in-Some : goal.returns-in-Some
returns-in-Some c =
    let cfg = c.args.config.now in
    let s = c.args.state.now in
    let q = c.args.asked.now in
    IfOk-weaker c.enacted.result (Does cfg s c.in-Some.host c.args.request.now c.args.draft) _ (λ (d : Decided) done. λ before legal kept.
    let it = c.requires.drafted before legal kept in
    let o = manager_outcome cfg (effects before) (λ h. view_of cfg h before) q in
    let of = subst (λ k. IfSome k (OfHost cfg before s q c.args.draft)) (sym c.changed_host.ensures ∙ c.in-Some.is)
    (of_host cfg c.requires.reached.sound before legal s kept q c.args.draft it.0 it.1) in
    decided_manager cfg before c.args.request.now q c.requires.asked it.0 d (done before o kept of.is of.drafts) of.short) c.enacted.ensures

pub enacted_quietly-requires-clause-known : goal.enacted_quietly-requires-clause-known
enacted_quietly-requires-clause-known c =
    let cfg = c.args.config.now in
    let reached = c.requires.reached in
    let q = c.args.asked.now in
    let o = manager_outcome cfg (effects reached.journal) (λ h. view_of cfg h reached.journal) q in
    let it = c.requires.drafted reached.journal reached.legal reached.kept in
    let none : changed_host q ≡ None = sym c.changed_host.ensures ∙ c.in_default.is in
    quiet_log_records cfg reached.journal c.args.state.now reached.kept q none c.args.draft (quiet_drafts cfg reached.journal q none o c.args.draft it.1)

pub enacted_quietly-requires-clause-hosts : goal.enacted_quietly-requires-clause-hosts
enacted_quietly-requires-clause-hosts c =
    let cfg = c.args.config.now in
    let reached = c.requires.reached in
    let q = c.args.asked.now in
    let o = manager_outcome cfg (effects reached.journal) (λ h. view_of cfg h reached.journal) q in
    let it = c.requires.drafted reached.journal reached.legal reached.kept in
    let none : changed_host q ≡ None = sym c.changed_host.ensures ∙ c.in_default.is in
    quiet_hosts cfg reached.journal c.args.state.now reached.kept (λ h. view_of cfg h reached.journal) o c.args.draft (quiet_drafts cfg reached.journal q none o c.args.draft it.1)

pub returns : goal.returns
returns c =
    let cfg = c.args.config.now in
    let s = c.args.state.now in
    let q = c.args.asked.now in
    let none : changed_host q ≡ None = sym c.changed_host.ensures ∙ c.in_default.is in
    IfOk-weaker c.enacted_quietly.result (EntersDraft s c.args.request.now c.args.draft c.as_slice.result.now) _ (λ (d : Decided) done. λ before legal kept.
    let it = c.requires.drafted before legal kept in
    let o = manager_outcome cfg (effects before) (λ h. view_of cfg h before) q in
    decided_manager cfg before c.args.request.now q c.requires.asked it.0 d
    (done cfg before o kept
    (quiet_ended cfg before c.requires.reached.sound legal s kept q none ∙ sym (c.as_slice.ensures ∙ c.in_ok-ended.ensures))
    (quiet_drafts cfg before q none o c.args.draft it.1))
    (short_manager cfg before s kept c.requires.reached.sound.regions q c.request_fits.ensures it.0)) c.enacted_quietly.ensures
