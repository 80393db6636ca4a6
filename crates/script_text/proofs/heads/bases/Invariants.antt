use Rattle.std.proofs.Common.{◌≡◌, ◌+◌, ◌-◌, length}
use Rattle.script_text.specs.Heads.{bases_at, bases_behind}
use Rattle.script_text.proofs.heads.bases.Given as goal

abbrev pub invariant-loop : goal.invariant-loop
invariant-loop l = record {
  count : length l.bases.items ≡ length l.fn.bases.items + l.counter;
  read : bases_behind l.bases.items (bases_at (l.count - l.counter) l.words) ≡ bases_behind l.fn.bases.items (bases_at l.count l.fn.words);
}
