use Rattle.text_lines.proofs.PrintedPairs.{each_small, tag_reads, tag_word}
use Rattle.text_lines.proofs.laws.law_tag.Goals as goal

pub returns-clause-reads : goal.returns-clause-reads
returns-clause-reads c = tag_reads c.args.tag.now c.sixteen.ensures (each_small c.args.tag.now.0 (rw c.as_slice.ensures at c.are_bytes.ensures))

pub returns-clause-word : goal.returns-clause-word
returns-clause-word c = tag_word c.args.tag.now c.sixteen.ensures (each_small c.args.tag.now.0 (rw c.as_slice.ensures at c.are_bytes.ensures))
