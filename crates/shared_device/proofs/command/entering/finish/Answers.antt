use Rattle.std.proofs.Common.{arith}
use Rattle.shared_device.proofs.{EnteringSteps.bare_after, Turns.same_twice}
use Rattle.shared_device.proofs.command.entering.finish.Goals as goal

pub returns-clause-seat : goal.returns-clause-seat
returns-clause-seat g c =
    let entered = c.enter_from.ensures in
    let gave = c.give_first.ensures in (
      same_twice _ _ _ entered.seat gave.seat,
      bare_after c.args.seat.now c.enter_from.new.seat c.give_first.new.seat entered.turns (λ k. c.requires.touched.no_others k (omega arith)) gave.turn,
    )
