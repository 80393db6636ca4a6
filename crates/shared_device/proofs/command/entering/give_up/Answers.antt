use Rattle.std.proofs.Common.{refl}
use Rattle.shared_device.proofs.EnteringSteps.{bare_after}
use Rattle.shared_device.proofs.command.entering.give_up.Goals as goal

pub returns-clause-seat : goal.returns-clause-seat
returns-clause-seat c =
    let gave = c.give_first.ensures in
    (gave.seat, bare_after c.args.seat.now c.args.seat.now c.give_first.new.seat refl c.requires.turns.no_others gave.turn)
