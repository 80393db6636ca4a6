use Rattle.std.{proofs.Common.◌≡◌, proofs.Common.◌+◌, proofs.Common.◌*◌, proofs.Common.◌≤◌, proofs.Common.length, proofs.Common.IsTrue, specs.List.list_all}
use Rattle.script_runner.specs.script_codec.specs.Scripts.{is_sound_line}
use Rattle.threads_tests.specs.Desks.{AreDesks}
use Rattle.threads_tests.proofs.marked.run_apart.Given as goal

abbrev pub invariant-loop-rest : goal.invariant-loop-rest
invariant-loop-rest g l = record {
  desks : AreDesks 2 2 l.number 0 l.desks;
  count : length l.desks ≡ 6;
  sound : IsTrue (list_all (is_sound_line 2 2) l.rest);
  room : l.number + 2 * length l.rest ≤ 131073;
}

abbrev pub decreases-loop-rest : goal.decreases-loop-rest
decreases-loop-rest g l = length l.rest
