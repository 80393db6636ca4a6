use Rattle.std.proofs.Common.{ap, not, sym, ◌∙◌}
use Rattle.tag_refs.{specs.Tables.has_entry, proofs.Tagged.none_left}
use Rattle.tag_refs.proofs.tables.Tags.end_unused.Goals as goal

pub returns-clause-gone : goal.returns-clause-gone
returns-clause-gone c = sym (ap not (ap (has_entry c.args.tag.now) c.end.ensures.ended ∙ none_left c.args.tag.now c.args.self.now.entries))
