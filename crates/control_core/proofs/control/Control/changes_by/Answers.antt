use Rattle.std.proofs.Common.{◌≡◌, sym, subst}
use Rattle.device_commands.specs.device_rules.specs.Answers.{answer}
use Rattle.control_core.{specs.Steps.Controlled, specs.Steps.MayStep, proofs.NextEntry.is_of_step}
use Rattle.control_core.proofs.control.Control.changes_by.Goals as goal

pub changes_by-requires : goal.changes_by-requires
changes_by-requires c =
    is_of_step c.self.inside.live c.self.inside.entries.entries c.self.invariant c.args.actor.now c.args.act.now
    (subst (λ (d : Controlled). MayStep d.config c.args.actor.now c.args.act.now) (sym c.self.view_is) c.requires.may) c.args.new.now
    (subst (λ (d : Controlled). c.args.new.now ≡ (answer d.config d.entries c.args.actor.now c.args.act.now).1) (sym c.self.view_is) c.requires.of_step)
