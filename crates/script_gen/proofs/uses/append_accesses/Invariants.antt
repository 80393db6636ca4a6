use Rattle.std.proofs.Common.{◌≡◌, ◌*◌, ◌++◌}
use Rattle.script_gen.specs.Drawing.{accesses_by, draws_after}
use Rattle.script_gen.proofs.uses.append_accesses.Given as goal

abbrev pub invariant-loop-word : goal.invariant-loop-word
invariant-loop-word l = record {
  lines : l.lines.items ≡ l.fn.lines.items ++ accesses_by l.round l.host l.fn.draws l.word;
  draws : l.draws ≡ draws_after l.fn.draws (2 * l.word);
}
