use Rattle.host_driver.proofs.{InTurns.busy_then, InTurns.line_done, InTurns.turns_then, Turns.rests}
use Rattle.host_driver.proofs.driving.take_turn.Goals as goal

pub settle-requires-clause-turns : goal.settle-requires-clause-turns
settle-requires-clause-turns c =
    let entered = c.in_ok-enter_act.ensures.entered in
    turns_then c.args.device.now c.enter_act.new.device c.args.driver.now c.requires.turns c.args.line c.args.actor c.args.act entered.0 entered.1 c.in_ok-enter_act.ensures.spelled c.requires.other c.requires.rest

pub settle-requires-clause-busy : goal.settle-requires-clause-busy
settle-requires-clause-busy c =
    let entered = c.in_ok-enter_act.ensures.entered in
    busy_then c.args.device.now c.enter_act.new.device c.args.driver.now c.requires.turns c.args.line c.args.actor c.args.act entered.0 entered.1 c.in_ok-enter_act.ensures.spelled c.requires.other c.requires.rest

pub returns-clause-line : goal.returns-clause-line
returns-clause-line c = λ lane.
    let entered = c.in_ok-enter_act.ensures.entered in
    line_done c.args.device.now c.enter_act.new.device c.args.driver.now c.requires.turns c.args.line c.args.actor c.args.act entered.0 entered.1 c.in_ok-enter_act.ensures.spelled c.requires.other c.requires.rest
    lane c.settle.new.device c.settle.new.driver c.in_ok-settle.ensures.gone

pub returns-clause-rest : goal.returns-clause-rest
returns-clause-rest c =
    let gone = c.in_ok-settle.ensures.gone in
    rests c.args.driver.now.host c.args.driver.now.most c.settle.new.device c.settle.new.driver gone.turns gone.last c.in_ok-settle.ensures.idle
