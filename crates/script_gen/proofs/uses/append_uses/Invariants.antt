use Rattle.std.proofs.Common.{◌≡◌, ◌*◌, ◌++◌}
use Rattle.script_gen.specs.Drawing.{draws_after, uses_by}
use Rattle.script_gen.proofs.uses.append_uses.Given as goal

abbrev pub invariant-loop-host : goal.invariant-loop-host
invariant-loop-host l = record {
  lines : l.lines.items ≡ l.fn.lines.items ++ uses_by l.round l.fn.draws l.host;
  draws : l.draws ≡ draws_after l.fn.draws (32 * l.host);
}
