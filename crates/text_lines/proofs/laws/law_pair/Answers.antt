use Rattle.std.proofs.Common.{arith}
use Rattle.text_lines.proofs.PrintedPairs.{pair_reads_back, pair_word}
use Rattle.text_lines.proofs.laws.law_pair.Goals as goal

pub returns-clause-reads : goal.returns-clause-reads
returns-clause-reads c = pair_reads_back c.args.byte (omega (arith, c.ranges.byte))

pub returns-clause-word : goal.returns-clause-word
returns-clause-word c = pair_word c.args.byte (omega (arith, c.ranges.byte))
