use Rattle.std.{proofs.Common.◌≡◌, proofs.Common.ℕ, proofs.Common.◌-◌, proofs.Common.◌<◌, proofs.Common.◌≤◌, proofs.Common.false, proofs.Common.length, proofs.Common.Some, specs.Prelude.slice_get}
use Rattle.report.specs.script_codec.specs.declared.script_line.Line.{Line}
use Rattle.journal_check.specs.Following.{has_pass}
use Rattle.journal_check.proofs.fronts.front_from.Given as goal

abbrev pub invariant-loop-index : goal.invariant-loop-index
invariant-loop-index l = record {
  least : l.start ≤ l.index;
  within : l.index ≤ length l.lines;
  none : (i : ℕ) (line : Line) → l.start ≤ i → i < l.index → slice_get l.lines i ≡ Some line → has_pass l.hosts l.script.lanes l.pass line ≡ false;
}

abbrev pub decreases-loop-index : goal.decreases-loop-index
decreases-loop-index l = length l.lines - l.index
