use Rattle.script_runner.specs.shared_device.proofs.Turns.{given_again}
use Rattle.threads_tests.proofs.TallySteps.{same_twice}
use Rattle.threads_tests.proofs.runs.row.Goals as goal

pub returns-clause-first : goal.returns-clause-first
returns-clause-first g c =
    let took = c.take-counter.ensures in
    let back = c.put_back.ensures in
    (same_twice _ _ _ took.seat back.seat, given_again _ _ _ 2 _ c.requires.first.0 took.turn.0 back.turn)
