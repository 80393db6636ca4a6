use Rattle.std.proofs.Common.{arith}
use Rattle.text_lines.proofs.PrintedNumbers.{decimal_digits, decimal_reads, number_high}
use Rattle.text_lines.proofs.laws.law_decimal.Goals as goal

pub returns-clause-reads : goal.returns-clause-reads
returns-clause-reads c = decimal_reads c.args.number (omega (arith, c.ranges.number))

pub returns-clause-digits : goal.returns-clause-digits
returns-clause-digits c = decimal_digits c.args.number (omega (arith, c.ranges.number))

pub returns-clause-word : goal.returns-clause-word
returns-clause-word c = number_high c.args.number _ (decimal_reads c.args.number (omega (arith, c.ranges.number)))
