use Rattle.std.proofs.Common.{ap, subst, sym, ◌∙◌}
use Rattle.device_plain.specs.isolation_laws.specs.Solo.{acts_for}
use Rattle.report.specs.script_codec.specs.declared.script_line.Line.{Line}
use Rattle.host_driver.{specs.Running.HasLine, proofs.InTurns.own_line}
use Rattle.host_driver.proofs.driving.run_act.Goals as goal

pub take_turn-requires-clause-other : goal.take_turn-requires-clause-other
take_turn-requires-clause-other c = ap (λ h. acts_for h c.args.actor.now) (sym c.host.ensures) ∙ sym c.is_of.ensures ∙ c.if-is_of.false

pub returns-then-is_of-clause-line : goal.returns-then-is_of-clause-line
returns-then-is_of-clause-line c = λ lane.
    own_line c.args.device.now c.args.driver.now c.requires.turns c.args.line c.args.actor.now lane c.args.act.now
    (ap (λ h. acts_for h c.args.actor.now) (sym c.host.ensures) ∙ sym c.is_of.ensures ∙ c.if-is_of.true)

pub returns-in_ok-take_turn-clause-line : goal.returns-in_ok-take_turn-clause-line
returns-in_ok-take_turn-clause-line c = λ lane.
    subst (λ act. HasLine c.args.driver.now.host c.args.driver.now.most (c.args.line, Line.Do c.args.actor.now lane act) c.args.device.now c.take_turn.new.device c.take_turn.new.driver)
    c.in_ok-act.ensures (c.in_ok-take_turn.ensures.line lane)
