use Rattle.std.proofs.Common.{◌≡◌, length}
use Rattle.script_text.specs.Texts.{lines_at, lines_behind}
use Rattle.script_text.proofs.parsing.fill_lines.Given as goal

abbrev pub invariant-loop-words : goal.invariant-loop-words
invariant-loop-words l = record {
  end : l.lines.end ≡ l.fn.lines.end;
  read : lines_behind l.out (lines_at l.left l.frame l.lines.lines) ≡ lines_at l.most l.frame l.fn.lines.lines;
}

abbrev pub decreases-loop-words : goal.decreases-loop-words
decreases-loop-words l = length l.lines.lines
