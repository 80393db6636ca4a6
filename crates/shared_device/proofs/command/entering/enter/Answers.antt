use Rattle.std.proofs.Common.{arith}
use Rattle.shared_device.proofs.EnteringSteps.{others_free}
use Rattle.shared_device.proofs.command.entering.enter.Goals as goal

pub finish-requires-clause-touched : goal.finish-requires-clause-touched
finish-requires-clause-touched g c = record {
  below = λ k lt t. absurd (omega (arith, lt));
  no_others = λ k le. others_free c.args.seat.now c.take_first-control.new.seat _ c.requires.idle.0 c.take_first-control.ensures.turn.0 k;
}

pub give_up-requires-clause-turns : goal.give_up-requires-clause-turns
give_up-requires-clause-turns g c =
    let took = c.take_first-control.ensures in
    record {
      taken = c.take_first-control.result;
      turn = took.turn.1;
      same = c.prepared.ensures.same;
      legal = took.told.sound;
      no_others = λ k. others_free c.args.seat.now c.take_first-control.new.seat _ c.requires.idle.0 took.turn.0 k;
    }
