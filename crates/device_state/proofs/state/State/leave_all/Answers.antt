use Rattle.std.proofs.Common.{◌∙◌, ap, sym}
use Rattle.device_state.{specs.StateAfter.part_of, specs.declared.state.State.State, proofs.Leaves.none_told_left}
use Rattle.device_state.proofs.state.State.leave_all.Goals as goal

pub returns-then-is_empty-clause-tags : goal.returns-then-is_empty-clause-tags
returns-then-is_empty-clause-tags c =
    let old = c.args.self.now in
    let h = c.args.host in
    ap (λ (s : State). s.tags.entries) c.enter_leaves.ensures.kept
    ∙ none_told_left h c.args.leaving.now (part_of old h).lists old.tags.entries (sym c.is_empty.ensures ∙ c.if-is_empty.true)
