use Rattle.script_runner.specs.shared_device.proofs.Turns.{given_again}
use Rattle.threads_tests.proofs.TallySteps.{same_twice}
use Rattle.threads_tests.proofs.waiting.keep.Goals as goal

pub returns : goal.returns
returns g c =
    (same_twice _ _ _ c.take-counter.ensures.seat c.put_back.ensures.seat, given_again _ _ _ 2 _ c.requires.idle.0 c.take-counter.ensures.turn.0 c.put_back.ensures.turn)
