use Rattle.std.{proofs.Common.◌≡◌, proofs.Common.◌++◌, proofs.Common.◌∙◌, proofs.Common.subst, specs.Prelude.OnOk}
use Rattle.report.specs.Texts.{summary}
use Rattle.pool_planner.proofs.PlanLines.{all_gathered, state_behind, state_within}
use Rattle.pool_planner.proofs.running.write_state.Goals as goal

pub split_at-requires : goal.split_at-requires
split_at-requires c =
    let bytes : c.as_slice.result.now ≡ summary c.args.device.now.config c.args.device.now.journal =
    c.as_slice.ensures ∙ c.taken.ensures ∙ all_gathered _ _ (rw c.new-sink.ensures at c.in-Ok.ensures.whole)
    ∙ (λ i. summary (c.control.ensures.config i) (c.journal-journal.ensures.value i)) in
    state_within c.as_slice.result.now c.args.device.now.config c.args.device.now.journal bytes

pub returns-in-Ok : goal.returns-in-Ok
returns-in-Ok c =
    let bytes : c.as_slice.result.now ≡ summary c.args.device.now.config c.args.device.now.journal =
    c.as_slice.ensures ∙ c.taken.ensures ∙ all_gathered _ _ (rw c.new-sink.ensures at c.in-Ok.ensures.whole)
    ∙ (λ i. summary (c.control.ensures.config i) (c.journal-journal.ensures.value i)) in
    subst (λ state. OnOk c.extend_from_slice.result (c.extend_from_slice.new.self ≡ c.args.text.now ++ state))
    (c.split_at.ensures.back ∙ state_behind c.as_slice.result.now c.args.device.now.config c.args.device.now.journal bytes) c.extend_from_slice.ensures.extended
