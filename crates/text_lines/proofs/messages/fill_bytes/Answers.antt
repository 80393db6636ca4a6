use Rattle.std.proofs.Common.{◌≤◌, Err, length, arith, ap, sym, ◌∙◌}
use Rattle.text_lines.{specs.Pairs.pairs_said, proofs.LoopLaws.bytes_bad, proofs.LoopLaws.bytes_end, proofs.LoopLaws.bytes_go_on, proofs.LoopLaws.bytes_long}
use Rattle.text_lines.proofs.messages.fill_bytes.Goals as goal

pub returns-then-not-branch-clause-value : goal.returns-then-not-branch-clause-value
returns-then-not-branch-clause-value c = λ real.
    bytes_bad c.loop-words.bytes c.write_pairs_of.new.out c.loop-words.words (pairs_said c.next.result.now) _ (sym c.is_done.ensures ∙ c.loop-words-test.true) (ap pairs_said (sym c.next.ensures))
    (rw c.if-not-branch.true at c.in_ok-write_pairs_of.ensures) c.loop-words.invariant.read ∙ ap Err (sym c.refused.ensures)

pub returns-then-len-gt65535-clause-value : goal.returns-then-len-gt65535-clause-value
returns-then-len-gt65535-clause-value c = λ real.
    bytes_long c.loop-words.bytes c.write_pairs_of.new.out c.loop-words.words (pairs_said c.next.result.now) _ (sym c.is_done.ensures ∙ c.loop-words-test.true) (ap pairs_said (sym c.next.ensures))
    (rw c.if-not-branch.false at c.in_ok-write_pairs_of.ensures) (omega (arith, c.len.ensures, c.if-len-gt65535.true)) c.loop-words.invariant.read ∙ ap Err (sym c.refused-then-len-gt65535.ensures)

pub loop-words-preserved : goal.loop-words-preserved
loop-words-preserved c =
    let short : length c.write_pairs_of.new.out ≤ 65535 = omega (arith, c.len.ensures, c.if-len-gt65535.false) in
    record {
      read = bytes_go_on c.loop-words.bytes c.write_pairs_of.new.out c.loop-words.words c.advance.new.self (pairs_said c.next.result.now) _ (sym c.is_done.ensures ∙ c.loop-words-test.true) (ap pairs_said (sym c.next.ensures))
          (rw c.if-not-branch.false at c.in_ok-write_pairs_of.ensures) short c.advance.ensures c.loop-words.invariant.read;
      short = λ before. short;
    }

pub returns-clause-value : goal.returns-clause-value
returns-clause-value c = bytes_end c.loop-words.bytes c.loop-words.words _ (sym c.is_done.ensures ∙ c.loop-words-test.false) c.loop-words.invariant.read
