use Rattle.std.proofs.Common.{arith}
use Rattle.text_lines.proofs.PrintedNumbers.{hexadecimal_reads, number_high}
use Rattle.text_lines.proofs.laws.law_hexadecimal.Goals as goal

pub returns-clause-reads : goal.returns-clause-reads
returns-clause-reads c = hexadecimal_reads c.args.number (omega (arith, c.ranges.number))

pub returns-clause-word : goal.returns-clause-word
returns-clause-word c = number_high c.args.number _ (hexadecimal_reads c.args.number (omega (arith, c.ranges.number)))
