use Rattle.std.proofs.Common.{◌∙◌}
use Rattle.kept_journal.proofs.Parts.{pair_of_parts}
use Rattle.kept_journal.proofs.lent_shards.eight.Goals as goal

pub returns : goal.returns
returns c = c.new.ensures ∙ pair_of_parts c.args.lists.now c.args.at 4 c.four.result c.four-2.result c.four.ensures c.four-2.ensures
