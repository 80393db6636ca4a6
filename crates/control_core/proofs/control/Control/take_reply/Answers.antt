use Rattle.std.proofs.Common.{List, sym, subst}
use Rattle.journal_core.specs.declared.entries.Entry.{Entry}
use Rattle.control_core.{proofs.NextEntry.enters_nothing, proofs.NextEntry.holds_decided, specs.Deciding.Holds, specs.Deciding.IsDecidedBy, specs.Decisions.only_replied}
use Rattle.control_core.specs.Steps.{Controlled, MayStep}
use Rattle.control_core.proofs.control.Control.take_reply.Goals as goal

pub invariant_of-self-2 : goal.invariant_of-self-2
invariant_of-self-2 c =
    let live = c.self.inside.live in
    let before = c.self.inside.entries.entries in
    let may = subst (λ (d : Controlled). MayStep d.config c.args.actor c.args.act.now) (sym c.self.view_is) c.requires.may in
    let is = subst (λ (d : Controlled). IsDecidedBy d.config d.entries c.args.actor c.args.act.now (only_replied c.args.reply.now)) (sym c.self.view_is) c.requires.decided in
    subst (λ (es : List Entry). Holds live.config es live.state) (sym c.in_ok-append_quiet.ensures.appended)
    (holds_decided live live before c.self.invariant c.args.pass c.args.line c.args.actor c.args.act.now may (only_replied c.args.reply.now) is (enters_nothing live))
