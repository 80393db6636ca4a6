use Rattle.std.{proofs.Common.◌≤◌, proofs.Common.◌*◌, proofs.Common.length, proofs.Common.IsTrue, specs.List.list_all}
use Rattle.script_runner.specs.script_codec.specs.Scripts.{is_sound_line}
use Rattle.threads_tests.proofs.desks.marked_lines.Given as goal

abbrev pub invariant-loop-index : goal.invariant-loop-index
invariant-loop-index l = record {
  sound : IsTrue (list_all (is_sound_line 2 2) l.lines.items);
  count : length l.lines.items ≤ 2 * l.index;
}
