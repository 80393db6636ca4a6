use Rattle.script_runner.specs.shared_device.specs.Passing.{IsSamePass}
use Rattle.threads_tests.proofs.beside.use_word.Given as goal

abbrev pub invariant-loop-k : goal.invariant-loop-k
invariant-loop-k g l = IsSamePass l.shared l.fn.pass l.pass
