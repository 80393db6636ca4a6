use Rattle.std.proofs.Common.{arith}
use Rattle.text_lines.proofs.{PrintedNumbers.size_reads, PrintedWords.size_word}
use Rattle.text_lines.proofs.laws.law_size.Goals as goal

pub returns-clause-reads : goal.returns-clause-reads
returns-clause-reads c = size_reads c.args.number (omega (arith, c.ranges.number))

pub returns-clause-word : goal.returns-clause-word
returns-clause-word c = size_word c.args.number (omega (arith, c.ranges.number))
