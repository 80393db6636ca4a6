use Rattle.std.proofs.Common.{◌∙◌, List, subst, sym}
use Rattle.journal_core.specs.declared.outcome.Effect.{Effect}
use Rattle.control_core.{specs.Deciding.IsDecidedBy, proofs.NextEntry.none_in}
use Rattle.control_core.proofs.control.Control.step.Goals as goal

pub take_reply-requires-clause-decided : goal.take_reply-requires-clause-decided
take_reply-requires-clause-decided c =
    let d = c.in_ok-decided.decided in
    let mid = c.decide.new.self in
    subst (λ (es : List Effect). IsDecidedBy mid.config mid.entries c.args.actor c.args.act.now (record { reply = d.reply; effects = es }))
    (none_in d.effects (sym c.is_empty.ensures ∙ c.if-is_empty.true)) c.in_ok-decided.ensures.decided
