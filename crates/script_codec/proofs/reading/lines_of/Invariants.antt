use Rattle.std.proofs.Common.{◌≡◌, ◌+◌, length}
use Rattle.script_codec.proofs.Lists.{with_lines}
use Rattle.script_codec.proofs.reading.lines_of.Given as goal

-- The lines that were read stand before those that are still to come.
abbrev pub invariant-loop-line : goal.invariant-loop-line
invariant-loop-line l = record {
  count : length l.lines + l.reader.left ≡ l.fn.reader.left;
  read : with_lines l.lines l.reader.rest ≡ l.fn.reader.rest;
}

abbrev pub decreases-loop-line : goal.decreases-loop-line
decreases-loop-line l = l.reader.left
