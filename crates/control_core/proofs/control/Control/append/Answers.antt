use Rattle.std.proofs.Common.{List, sym, subst}
use Rattle.journal_core.specs.declared.{entries.Entry.Entry, outcome.Effect.Effect}
use Rattle.control_core.{proofs.NextEntry.holds_decided, proofs.NextEntry.is_of_step, specs.Deciding.Holds, specs.Deciding.IsDecidedBy, specs.Pasts.EntersStep, specs.Pasts.IsOfStep}
use Rattle.control_core.specs.{Steps.Controlled, Steps.MayStep, declared.decided.Decided.Decided}
use Rattle.control_core.proofs.control.Control.append.Goals as goal

pub enter-requires-clause-step : goal.enter-requires-clause-step
enter-requires-clause-step c =
    let live = c.self.inside.live in
    let d : Decided = c.args.decided.now in
    let may = subst (λ (k : Controlled). MayStep k.config c.args.actor c.args.act.now) (sym c.self.view_is) c.requires.may in
    let is = subst (λ (k : Controlled). IsDecidedBy k.config k.entries c.args.actor c.args.act.now d) (sym c.self.view_is) c.requires.decided in
    subst (λ (es : List Effect). IsOfStep live es) (sym c.as_slice.ensures)
    (is_of_step live c.self.inside.entries.entries c.self.invariant c.args.actor c.args.act.now may d.effects is.effects)

pub invariant_of-self-2 : goal.invariant_of-self-2
invariant_of-self-2 c =
    let live = c.self.inside.live in
    let d : Decided = c.args.decided.now in
    let may = subst (λ (k : Controlled). MayStep k.config c.args.actor c.args.act.now) (sym c.self.view_is) c.requires.may in
    let is = subst (λ (k : Controlled). IsDecidedBy k.config k.entries c.args.actor c.args.act.now d) (sym c.self.view_is) c.requires.decided in
    let enters = subst (λ (es : List Effect). EntersStep live c.enter.new.self es) c.as_slice.ensures c.enter.ensures.entered in
    subst (λ (es : List Entry). Holds c.enter.new.self.config es c.enter.new.self.state) (sym c.in_ok-append.ensures.appended)
    (holds_decided live c.enter.new.self c.self.inside.entries.entries c.self.invariant c.args.pass c.args.line c.args.actor c.args.act.now may d is enters)
