use Rattle.std.proofs.Common.{◌∙◌}
use Rattle.kept_journal.proofs.Parts.{pair_of_parts}
use Rattle.kept_journal.proofs.lent_shards.four.Goals as goal

pub returns : goal.returns
returns c = c.new.ensures ∙ pair_of_parts c.args.lists.now c.args.at 2 c.two.result c.two-2.result c.two.ensures c.two-2.ensures
