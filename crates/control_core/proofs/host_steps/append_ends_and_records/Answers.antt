use Rattle.std.proofs.{Common.◌∙◌, Common.◌++◌, Common.ap, Common.map, Common.subst, Common.sym, lemmas.Result.on_ok_weaker}
use Rattle.journal_core.specs.{Entries.effects, declared.outcome.Effect.Effect}
use Rattle.device_commands.specs.{Drafts.HasExtentsOf, device_rules.specs.Views.view_after, device_rules.specs.Views.view_of}
use Rattle.control_core.{specs.Recording.after_changes, specs.Recording.ending_with, specs.Recording.events_by, specs.Recording.records_told, proofs.Doing.after_extents, proofs.Recorded.none_recorded}
use Rattle.control_core.proofs.host_steps.append_ends_and_records.Goals as goal

pub returns-then-tells_nothing-clause-effects : goal.returns-then-tells_nothing-clause-effects
returns-then-tells_nothing-clause-effects c = λ journal kept.
    let cfg = c.args.config.now in
    let s = c.args.state.now in
    let h = c.args.host in
    let d = c.args.draft.now in
    let none = c.tells_nothing.ensures c.if-tells_nothing.true in
    none_recorded h (after_changes cfg s h d.changes) s.tags.entries (effects journal) (events_by (view_after cfg h (view_of cfg h journal) d.changes)) d.changes d.tags d.log_records none.0 none.1

pub returns-clause-effects : goal.returns-clause-effects
returns-clause-effects c =
    let cfg = c.args.config.now in
    let s = c.args.state.now in
    let h = c.args.host in
    let d = c.args.draft.now in
    on_ok_weaker c.append_records_of_logs.result (λ told. λ journal kept.
    let w = view_after cfg h (view_of cfg h journal) d.changes in
    let is = c.in_ok-lists_after.ensures ∙ ap (after_changes cfg s h) c.as_slice.ensures in
    let has = after_extents cfg h journal s kept c.requires.host d.changes in
    told cfg journal w kept (subst (HasExtentsOf w) (sym is) has)
    ∙ ap (λ es. es ++ records_told (effects journal) (events_by w) d.log_records)
    (c.in_ok-append_ended.ensures ∙ (λ i. d.changes ++ map Effect.TagEnd (ending_with h (is i) s.tags.entries (c.as_slice-2.ensures i)))))
    c.append_records_of_logs.ensures
