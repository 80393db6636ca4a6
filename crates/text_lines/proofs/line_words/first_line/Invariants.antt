use Rattle.std.proofs.Common.{◌≡◌, ◌+◌, ◌<◌, ◌^◌, length}
use Rattle.text_lines.specs.Unread.{ahead_from, ahead_with}
use Rattle.text_lines.proofs.line_words.first_line.Given as goal

abbrev pub invariant-loop-words : goal.invariant-loop-words
invariant-loop-words l = record {
  ahead : ahead_with l.words (ahead_from l.number l.rest) ≡ ahead_from l.line l.text;
  within : l.number + length l.rest < 2 ^ 64;
}

abbrev pub decreases-loop-words : goal.decreases-loop-words
decreases-loop-words l = length l.rest
