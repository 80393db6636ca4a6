use Rattle.std.proofs.Common.{◌≡◌, ◌∷◌, [], List, ℕ, ap, map, subst, sym, ◌∙◌}
use Rattle.std.specs.Prelude.{OnOk}
use Rattle.dcd_base.specs.declared.steps.LogId.{LogId}
use Rattle.event_log.specs.LogStates.{LogState}
use Rattle.event_records.specs.declared.events.Event.{Event}
use Rattle.journal_core.specs.Entries.{effects}
use Rattle.device_plain.specs.device_rules.specs.Counts.{records_of}
use Rattle.plan_rules.specs.{Holding.Step, Listing.clear_step, Listing.clearing, Listing.for_some}
use Rattle.pool_planner.{specs.Trials.TriesMore, proofs.HeldBounds.records_are, proofs.Taking.for_none, proofs.Taking.for_one, proofs.Taking.takes_none}
use Rattle.pool_planner.proofs.letting_go.clear_log.Goals as goal

pub returns-then-is_empty : goal.returns-then-is_empty
returns-then-is_empty c =
    let h = c.args.host in
    let past = effects c.args.control.now.entries in
    let handle = λ (e : Event). e.handle in
    let handles = c.in_ok-handles.handles in
    let those : handles ≡ map handle (records_of (LogId.Host h) past) =
    c.in_ok-handles.ensures.those ∙ ap (λ (log : LogState). map handle log.records) c.log.ensures ∙ ap (map handle) (records_are (LogId.Host h) past) in
    let none : clearing h past ≡ [] = ap (λ (hs : List ℕ). for_some hs (clear_step h hs)) (sym those) ∙ for_none handles (clear_step h handles) (sym c.is_empty.ensures ∙ c.if-is_empty.true) in
    subst (TriesMore c.args.trial.now c.args.trial.now) (sym none) (takes_none c.args.trial.now)

pub returns : goal.returns
returns c =
    let h = c.args.host in
    let past = effects c.args.control.now.entries in
    let handle = λ (e : Event). e.handle in
    let handles = c.in_ok-handles.handles in
    let those : handles ≡ map handle (records_of (LogId.Host h) past) =
    c.in_ok-handles.ensures.those ∙ ap (λ (log : LogState). map handle log.records) c.log.ensures ∙ ap (map handle) (records_are (LogId.Host h) past) in
    let one : clearing h past ≡ clear_step h handles ∷ [] = ap (λ (hs : List ℕ). for_some hs (clear_step h hs)) (sym those) ∙ for_one handles (clear_step h handles) (sym c.is_empty.ensures ∙ c.if-is_empty.false) in
    subst (λ (more : List Step). OnOk c.take.result (TriesMore c.args.trial.now c.take.new.self more)) (ap (λ (s : Step). s ∷ []) c.in_ok-clear_step.ensures ∙ sym one) c.take.ensures
