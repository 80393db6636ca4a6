use Rattle.std.proofs.Common.{◌≡◌, ◌≤◌, length}
use Rattle.explainer.specs.Columns.{word_onward, words_later}
use Rattle.explainer.proofs.columns.onward.Given as goal

abbrev pub invariant-loop-before : goal.invariant-loop-before
invariant-loop-before l = record {
  value : words_later l.before l.rest ≡ word_onward l.word l.line;
  within : length l.rest ≤ length l.line;
}

abbrev pub decreases-loop-before : goal.decreases-loop-before
decreases-loop-before l = l.before
