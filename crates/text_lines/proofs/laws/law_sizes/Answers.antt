use Rattle.std.proofs.Common.{arith}
use Rattle.text_lines.proofs.PrintedWords.{sizes_read, sizes_word}
use Rattle.text_lines.proofs.laws.law_sizes.Goals as goal

pub returns-clause-reads : goal.returns-clause-reads
returns-clause-reads c = sizes_read c.args.mask c.requires (omega (arith, c.ranges.mask))

pub returns-clause-word : goal.returns-clause-word
returns-clause-word c = sizes_word c.args.mask c.requires (omega (arith, c.ranges.mask))
