use Rattle.std.proofs.Common.{◌≡◌, ◌≤◌, min, drop}
use Rattle.edge_io.specs.Words.{number_in}
use Rattle.journal_check.{specs.Claims.first_word, proofs.Reading.number_after}
use Rattle.journal_check.proofs.claims.number_at.Given as goal

abbrev pub invariant-loop-byte : goal.invariant-loop-byte
invariant-loop-byte l = record {
  few : l.number ≤ 65537;
  value : min 65537 (number_after l.number (first_word (drop l.byte-index l.bytes))) ≡ min 65537 (number_in (first_word l.bytes));
}
