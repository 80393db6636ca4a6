use Rattle.std.proofs.Common.{◌≡◌, List, ap, sym, subst, ◌∙◌}
use Rattle.journal_core.specs.{Entries.next_stamp, declared.entries.Entry.Entry}
use Rattle.device_commands.specs.device_rules.specs.Legal.{Meets}
use Rattle.control_core.{specs.Deciding.Holds, specs.Steps.Controlled, proofs.Entering.holds_next, proofs.Entering.past_held, proofs.NextEntry.is_next_meets}
use Rattle.control_core.proofs.control.Control.take.Goals as goal

pub enter-requires-clause-step : goal.enter-requires-clause-step
enter-requires-clause-step c =
    let live = c.self.inside.live in
    let before = c.self.inside.entries.entries in
    let e = c.args.entry in
    let meets = subst (λ (d : Controlled). Meets d.config d.entries e) (sym c.self.view_is) (is_next_meets c.args.self.now e c.requires.next) in
    record {
      past = before;
      entry = e;
      leads = past_held live.config before live.state c.self.invariant;
      meets = meets;
      effects_are = sym (c.as_slice.ensures ∙ ap (λ (x : Entry). x.effects) c.get.ensures);
    }

pub invariant_of-self : goal.invariant_of-self
invariant_of-self c =
    let live = c.self.inside.live in
    let before = c.self.inside.entries.entries in
    let e = c.args.entry in
    let meets = subst (λ (d : Controlled). Meets d.config d.entries e) (sym c.self.view_is) (is_next_meets c.args.self.now e c.requires.next) in
    let stamp : e.stamp ≡ next_stamp before = ap (λ (x : Entry). x.stamp) c.requires.next.is ∙ ap (λ (d : Controlled). next_stamp d.entries) (sym c.self.view_is) in
    let are : e.effects ≡ c.as_slice.result.now = sym (c.as_slice.ensures ∙ ap (λ (x : Entry). x.effects) c.get.ensures) in
    subst (λ (es : List Entry). Holds c.enter.new.self.config es c.enter.new.self.state) (sym c.push_reserved.ensures.pushed)
    (holds_next live c.enter.new.self before c.self.invariant e meets stamp c.requires.short c.as_slice.result.now are c.enter.ensures.entered)

pub push_reserved-requires-clause-stamp : goal.push_reserved-requires-clause-stamp
push_reserved-requires-clause-stamp c =
    ap (λ (x : Entry). x.stamp) c.requires.next.is ∙ ap (λ (d : Controlled). next_stamp d.entries) (sym c.self.view_is)
