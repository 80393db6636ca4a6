use Rattle.std.proofs.Common.{◌≡◌, ◌≤◌, length}
use Rattle.text_lines.specs.Lines.{bytes_at}
use Rattle.text_lines.proofs.messages.fill_bytes.Given as goal

abbrev pub invariant-loop-words : goal.invariant-loop-words
invariant-loop-words l = record {
  read : bytes_at l.bytes l.words.line l.words.word l.words.words ≡ bytes_at l.fn.bytes l.fn.words.line l.fn.words.word l.fn.words.words;
  short : length l.fn.bytes ≤ 65535 → length l.bytes ≤ 65535;
}

abbrev pub decreases-loop-words : goal.decreases-loop-words
decreases-loop-words l = length l.words.words
