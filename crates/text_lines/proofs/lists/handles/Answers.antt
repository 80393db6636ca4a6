use Rattle.std.proofs.Common.{rules}
use Rattle.text_lines.{specs.Fields.handles_ahead, proofs.PartLaws.handles_read}
use Rattle.text_lines.proofs.lists.handles.Goals as goal

pub returns-clause-value : goal.returns-clause-value
unfolding handles_ahead
returns-clause-value c = search rules

pub returns-clause-few : goal.returns-clause-few
returns-clause-few c = handles_read c.args.words.now (c.fill.new.items, c.fill.new.words) (returns-clause-value c)
