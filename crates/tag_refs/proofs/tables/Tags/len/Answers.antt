use Rattle.tag_refs.proofs.Stores.{values_apart}
use Rattle.tag_refs.proofs.tables.Tags.len.Goals as goal

pub returns-clause-tags : goal.returns-clause-tags
returns-clause-tags c = rw (← c.self.view_is) (values_apart _ c.self.invariant.0 c.len.ensures.unique)
