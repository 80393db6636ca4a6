use Rattle.std.proofs.Common.{◌++◌, ap, ◌∙◌}
use Rattle.journal_core.specs.Merging.{in_order}
use Rattle.kept_journal.proofs.Parts.{pair_of_parts, whole_of_parts}
use Rattle.kept_journal.proofs.lent_shards.whole_of_shards.Goals as goal

pub returns : goal.returns
returns c =
    c.new-2.ensures
    ∙ ap (λ xs. in_order (xs ++ c.new.result)) c.lend.ensures
    ∙ whole_of_parts c.args.control.now.entries c.new.result c.args.shards.now c.requires.control c.requires.few
    (c.new.ensures ∙ pair_of_parts c.args.shards.now 0 8 c.eight.result c.eight-2.result c.eight.ensures c.eight-2.ensures)
