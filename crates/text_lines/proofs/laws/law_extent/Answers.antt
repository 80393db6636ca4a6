use Rattle.std.proofs.Common.{arith}
use Rattle.text_lines.proofs.PrintedWords.{extent_reads, extent_word}
use Rattle.text_lines.proofs.laws.law_extent.Goals as goal

pub returns-clause-reads : goal.returns-clause-reads
returns-clause-reads c = extent_reads c.args.extent.now (omega arith) (omega arith)

pub returns-clause-word : goal.returns-clause-word
returns-clause-word c = extent_word c.args.extent.now (omega arith) (omega arith)
