use Rattle.std.proofs.Common.{ap, length, sym, ◌∙◌}
use Rattle.kept_journal.proofs.Keepings.{entries_of-length}
use Rattle.kept_journal.proofs.lent_lists.LentEntriesLender.len.Goals as goal

pub returns : goal.returns
returns c = sym (ap length (sym c.self.view_is) ∙ entries_of-length c.self.inside.before c.self.inside.kept.now c.self.inside.bytes.now)
