use Rattle.std.proofs.Common.{◌∙◌, suc}
use Rattle.script_runner.specs.shared_device.proofs.Turns.{given_again}
use Rattle.threads_tests.proofs.TallySteps.{same_twice}
use Rattle.threads_tests.proofs.runs.try_once.Goals as goal

pub returns-in-Ok : goal.returns-in-Ok
returns-in-Ok c =
    let took = c.in-Ok.ensures in
    let back = c.put_back.ensures in
    record { seat = (same_twice _ _ _ took.seat back.seat, given_again _ _ _ (suc c.args.index) _ c.requires.idle.0 took.turn.0 back.turn, back.view ∙ took.view) }
