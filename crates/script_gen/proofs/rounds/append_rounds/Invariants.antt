use Rattle.std.proofs.Common.{◌≡◌, ◌*◌, ◌++◌}
use Rattle.script_gen.specs.Drawing.{draws_after, rounds_by}
use Rattle.script_gen.proofs.rounds.append_rounds.Given as goal

abbrev pub invariant-loop-round : goal.invariant-loop-round
invariant-loop-round l = record {
  lines : l.lines.items ≡ l.fn.lines.items ++ rounds_by l.fn.draws l.round;
  draws : l.draws ≡ draws_after l.fn.draws (128 * l.round);
}
