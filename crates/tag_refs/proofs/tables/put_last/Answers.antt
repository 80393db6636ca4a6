use Rattle.tag_refs.proofs.Stores.{pushed}
use Rattle.tag_refs.proofs.tables.put_last.Goals as goal

pub returns-clause-stored : goal.returns-clause-stored
returns-clause-stored c = (pushed c.args.entries.now c.args.entry c.requires.stored c.requires.new _ c.in_ok-insert.ensures.entries).as_stored

pub returns-clause-put : goal.returns-clause-put
returns-clause-put c = (pushed c.args.entries.now c.args.entry c.requires.stored c.requires.new _ c.in_ok-insert.ensures.entries).entries
