use Rattle.tag_refs.proofs.Stores.{after_removal}
use Rattle.tag_refs.proofs.tables.Tags.end.Goals as goal

pub invariant_of-self : goal.invariant_of-self
invariant_of-self c = ((after_removal c.args.tag.now _ c.self.invariant.0 c.len-tags.ensures.unique _ c.shift_remove.ensures.entries).as_stored, c.self.invariant.1)

pub returns-clause-ended : goal.returns-clause-ended
returns-clause-ended c = rw (← c.self.view_is) (after_removal c.args.tag.now _ c.self.invariant.0 c.len-tags.ensures.unique _ c.shift_remove.ensures.entries).entries
