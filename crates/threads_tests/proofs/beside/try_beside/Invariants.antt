use Rattle.script_runner.specs.shared_device.specs.Passing.{IsSamePass}
use Rattle.threads_tests.proofs.beside.try_beside.Given as goal

abbrev pub invariant-loop-what : goal.invariant-loop-what
invariant-loop-what g l = IsSamePass l.shared l.fn.pass l.pass
