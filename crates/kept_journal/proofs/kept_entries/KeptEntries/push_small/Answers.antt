use Rattle.std.proofs.Common.{subst}
use Rattle.journal_core.specs.declared.entries.Entry.{Entry}
use Rattle.kept_journal.{specs.Keeping.PutOrNot, proofs.Keepings.is_next}
use Rattle.kept_journal.proofs.kept_entries.KeptEntries.push_small.Goals as goal

pub returns-clause-put : goal.returns-clause-put
returns-clause-put c =
    subst (λ (e : Entry). PutOrNot c.args.self.now c.append_small.new.self e c.append_small.result)
    (is_next c.args.self.now.entries c.args.entry.now c.as_slice.result.now c.requires.stamp c.as_slice.ensures) c.append_small.ensures.put
