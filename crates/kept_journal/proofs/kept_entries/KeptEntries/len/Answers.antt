use Rattle.std.proofs.Common.{ap, length, sym, ◌∙◌}
use Rattle.kept_journal.{specs.Keeping.Keeping, proofs.Keepings.entries_of-length}
use Rattle.kept_journal.proofs.kept_entries.KeptEntries.len.Goals as goal

pub returns-clause-value : goal.returns-clause-value
returns-clause-value c =
    ap length c.as_slice.ensures.value
    ∙ sym (ap (λ (v : Keeping). length v.entries) (sym c.self.view_is) ∙ entries_of-length 0 c.self.inside.kept.items c.self.inside.coder.bytes.items)
