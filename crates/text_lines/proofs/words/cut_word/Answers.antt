use Rattle.std.proofs.Common.{◌∙◌}
use Rattle.text_lines.proofs.WordLaws.{cut_whole, skip_gaps}
use Rattle.text_lines.proofs.words.cut_word.Goals as goal

pub returns-clause-words : goal.returns-clause-words
returns-clause-words c = rw (c.split_at-2.ensures.front, c.split_at-2.ensures.back, c.plain.ensures.value, c.split_at.ensures.back, c.gaps.ensures.value) ((cut_whole c.args.bytes.now).words ∙ skip_gaps c.args.bytes.now)

pub returns-clause-last : goal.returns-clause-last
returns-clause-last c = rw (c.split_at-2.ensures.front, c.split_at-2.ensures.back, c.plain.ensures.value, c.split_at.ensures.back, c.gaps.ensures.value) (cut_whole c.args.bytes.now).last
